-- A handle may go to another thread, as what it holds may.
use Rattle.std.proofs.Common.{Bool, true, false}
use mir.Raw.{raw}
use base.Fml.{Fml}
use base.Shift.{Keyless}
use base.Fraction.{full_share}
use denote.Builtin.{RawPtr, bool}
use denote.Exit.{Exit, unchanged, leaves, hidden, under}
use denote.Memory.{lone}
use denote.Param.{param}
use denote.Param.Send.{IsSend, Quiet, part_keyless, owning_send, struct_send, sendable}
use denote.RattleType.{RattleType}
use denote.RawPtr.{Ptr, block_ptr, null_ptr, lies_at}
use denote.Struct.Owning.{shape, fields, to}
use denote.Struct.Struct.{exits_of}
use Rattle.std.proofs.Crossing.{frees}
use Rattle.std.specs.declared.alloc.Global.{Global}
use Rattle.atomic_table.specs.Seated.{TableId}
use Rattle.snap_c.proofs.held.Held.TheSendSync.{the_send as held_send}
use Rattle.snap_c.specs.Held.{HeldValue}
use Rattle.snap_c.specs.Owned.{name_row, held_row, handle_owns}
use Rattle.snap_c.specs.contracts.handle.Handle.{the_row, the_type}

quiet : {D X : Type 0} (f : D → X) (e : Exit X) → Quiet e → Quiet (hidden (under f e))
quiet f unchanged q = λ x w. tt
quiet f (leaves L l S s r₀) q = λ d. q (f d)

lies : (R : RattleType) → IsSend R → (p : Ptr) (x : R.Denot) → Keyless (lies_at R full_share p x)
lies R s (block_ptr b o) x = part_keyless R s full_share x b o
lies R s null_ptr x = tt

owned : (stands : Bool) (heap : Global) (table : TableId) (at : Ptr) (value : HeldValue) → Keyless (handle_owns stands heap table at value)
owned true heap table at value = (lies (held_row table) (held_send (param 0 name_row) (record { table = table })) at value, frees.frees heap (raw (lone (held_row table).mir)) at)
owned false heap table at value = tt

pub send : IsSend the_row
send =
    let ps : IsSend RawPtr = search sendable in let bs : IsSend bool = search sendable in
    owning_send the_type (ps, (bs, tt)) (λ d. owned d.stands d.heap d.table d.at d.value)
    (λ k. quiet (to the_type) (exits_of k (fields the_type)) ((struct_send (shape the_type) (ps, (bs, tt))).leaving k))
