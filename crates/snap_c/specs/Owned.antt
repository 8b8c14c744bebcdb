-- What a handle owns: the block of what is held, whose store has a name that no type of C can have.
use Rattle.std.specs.Prelude.{[], Bool, true, false}
use base.Fml.{Fml, ftrue}
use base.Stored.{Coded}
use denote.Exit.{no}
use denote.Param.{arg, param}
use denote.RattleType.{RattleType}
use denote.RawPtr.{Ptr}
use mir.Syntax.{ty_struct, tnil}
use Rattle.std.specs.Box.Ownership.{box_owns}
use Rattle.std.specs.contracts.alloc.Global as global
use Rattle.std.specs.contracts.impls.GlobalAllocator.TheImpl.{ghosts}
use Rattle.std.specs.contracts.marker.Brand as brand
use Rattle.std.specs.declared.alloc.Global.{Global}
use Rattle.atomic_table.specs.Seated.{TableId}
use Rattle.snap_ledger.specs.Names.{no_table}
use Rattle.snap_c.specs.Held.{HeldValue}
use Rattle.snap_c.specs.contracts.held.Held as held

-- the type that stands for a store's name, as a call passes it
abbrev pub name_row : RattleType
name_row = arg (ty_struct [] tnil) no brand.the_row

-- what is held, where the store's name is this table's
abbrev pub held_row : TableId → RattleType
held_row table = held.the_row (param 0 name_row) (record { table = table })

-- where a store stands, its handle owns the block at this place
abbrev pub handle_owns : Bool → Global → TableId → Ptr → HeldValue → Fml
handle_owns true heap table at value = box_owns (ghosts.dealloc_token heap) (held_row table) at value
handle_owns false heap table at value = ftrue

-- how the logic stores a value of what is held
abbrev pub held_coded : Coded HeldValue
held_coded = (held_row no_table).coded

-- how it stores an allocator
abbrev pub heap_coded : Coded Global
heap_coded = (global.the_row).coded
