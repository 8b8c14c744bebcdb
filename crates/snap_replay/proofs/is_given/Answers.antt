use Rattle.std.proofs.Common.{ap, codes, false, ◌∙◌}
use Rattle.std.specs.Option.{option_map_or}
use Rattle.std.specs.Str.{bytes_eq}
use Rattle.clap.specs.Words.{found_of}
use Rattle.clap.proofs.WalkLemmas.{one_text-rows}
use Rattle.snap_replay.proofs.Asking.{read_flag}
use Rattle.snap_replay.proofs.is_given.Goals as goal

pub returns : goal.returns
returns c = c.unwrap_or.ensures ∙ (read_flag _ _ c.get_one.result c.get_one.ensures.none c.get_one.ensures.value ∙ ap (λ o. option_map_or (λ t. bytes_eq t (codes "true")) o false) (one_text-rows (found_of c.args.words.now) c.args.name.now))
