-- An empty slot owns nothing.
use Rattle.std.proofs.Common.{◌≡◌, List, [], ◌∷◌, ◌++◌, refl, sym, ap, subst}
use mir.Val.{Val, vptr}
use base.Logic.{SProp, ent, emp, id⊢}
use base.Fml.{ftrue, flft}
use prog.Wp.{WpFn}
use types.Kit.{‵, raw, ◌⊛◌, some, ◌$◌, ◌∵◌, !, qed, by, move, keep, drop, split, join, fsplit, fjoin, pick, suffices, use0, use1, rewrite}
use types.Run.{stop, fld, of_opd, no_more, and_then, returns, enter}
use types.ByLocal.{alloc_all, pass_all, free_all, look_at, get, get_in, sets}
use types.Part.{agg, sub, whole}
use contract.Monad.{fact, fact_i}
use contract.Running.{tables}
use denote.Exit.{no}
use denote.RattleType.{RattleType, owns}
use denote.Signature.{types_at, plain}
use denote.RawPtr.{block_ptr}
use denote.Steps.{nothing, heard}
use denote.Triple.Walked.{Stays, stay_dropped, walk_of}
use Rattle.core.proofs.alloc.Calls.{Goes-blank}
use Rattle.std.proofs.raw_atomic.Walks.{proved_at, leaves}
use Rattle.std.proofs.alloc.Global.TheLaws as heap_laws
use Rattle.std.specs.contracts.impls.GlobalAllocator.TheImpl.{ghosts}
use Rattle.loose.proofs.Values.{both, Loose, loose_good, loose_out, loose_in}
use Rattle.c_slots.proofs.RequestValues.{Z, R, Slot, alone, slot_in}
use Rattle.std.specs.declared.option.Option.TheVariants.{None, Some}
use denote.RawPtr.{null_ptr, ptr_val}
use Rattle.c_slots.specs.contracts.request_slot.RequestSlot.empty.{ended, clauses}
use Rattle.c_slots.specs.contracts.request_slot.RequestSlot.empty.Key.{name as #self}
use Rattle.c_slots.proofs.request_slot.RequestSlot.empty.Statement.{statement}
use Rattle.c_slots.proofs.request_slot.RequestSlot.empty.Code as code
use Rattle.std.specs.declared.option.Option.{Option}
use Rattle.c_slots.specs.declared.request_slot.Made.{Made}
use types.Run.{lit}
use lib.Dec.{lit<}
use Rattle.c_slots.specs.Owns.{request_owns}

abbrev nothing_held : Option Made
nothing_held = None

pub empty_spec : {M : Type 1} → statement M
empty_spec 𝓤 𝓛 𝓜 𝓡 wired =
    let H = 𝓛.H in let 𝓣 = tables 𝓤 H 𝓜 𝓡 𝓡.env in let En = ended in let c = clauses 𝓛 𝓜.mem 𝓡.returns in let fn = code.function in
    let hs : Stays En.signature.params En.kept = tt in
    proved_at 𝓛 En hs c 𝓜 𝓡 tt #self fn (code.unfolded 𝓤 H 𝓜 𝓡 wired) (λ z are.
    let Post : Val → SProp 𝓤 = (walk_of 𝓛 En hs c).post z in
    qed 𝓛 ((‵ ftrue ⊛ ‵ (owns (types_at En.signature.params z.0.0) z.0.3 z.0.4)) ∷ raw ((c z.0.0 z.0.3).requires z.1) ∷ []) ∵ split ! $
    enter ! 𝓣.C 𝓣.Λ fn [] Post $ alloc_all ! (λ l. pass_all ! refl tt $
    sets ! (agg ! (and_then ! (lit ! tt) (no_more !))) refl (tt, (record { fits = lit< tt }, tt)) $
    use0 𝓛 (‵ (request_owns null_ptr nothing_held)) (id⊢ 𝓤 _) $ slot_in ! null_ptr nothing_held $ use0 𝓛 (raw (fact 𝓤 (nothing_held ≡ nothing_held))) (fact_i 𝓤 (nothing_held ≡ nothing_held) (emp 𝓤) refl) $
    returns ! (look_at ! 0 refl) $ free_all ! refl $ nothing ! $ keep ! (3 ∷ 0 ∷ 2 ∷ 1 ∷ []) $
    by ! (leaves 𝓛 En hs c z (alone (ptr_val null_ptr)) (record { at = null_ptr; held = nothing_held }) tt tt)))
