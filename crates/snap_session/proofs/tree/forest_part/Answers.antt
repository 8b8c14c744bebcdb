use Rattle.snap_session.proofs.TreePages.{part_walked}
use Rattle.snap_session.proofs.tree.forest_part.Goals as goal

pub returns-in-Some : goal.returns-in-Some
returns-in-Some g c =
    part_walked c.args.place c.args.world.now.state.records c.records-records.result.now c.args.page.now c.in-Some.page c.in-Some.is c.records-records.ensures.records c.records-records.ensures.fits.good.sorted
    c.walked_page.result c.walked_page.ensures
