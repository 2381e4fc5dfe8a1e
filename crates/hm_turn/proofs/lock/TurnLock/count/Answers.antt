use Rattle.std.proofs.Common.{rules, ◌≡◌, ◌^◌, ◌+◌, ◌%◌, ◌++◌, ◌∷◌, [], List, Option, length, ap, sym, ⊎_elim, arith, subst}
use Rattle.atomic_table.specs.Table.{Me, Allows, step}
use mathlib.Core.Option.{none}
use Rattle.hm_model.specs.declared.entry.Entry.{Entry}
use Rattle.hm_turn.specs.declared.view.View.{View}
use Rattle.hm_turn.specs.Rule.{Orderly}
use Rattle.hm_turn.specs.Steps.{added}
use Rattle.hm_turn.proofs.Keeps.{counts, adds}
use Rattle.hm_turn.proofs.lock.TurnLock.count.Goals as goal

pub load-requires : goal.load-requires
load-requires g c = (search rules, search rules, counts g.T.Kept.entries g.T.Kept.origin _ _ _ c.args.seat.now.me.0 c.args.seat.now.me.1 c.requires.grown.holds.holds)

pub fetch_add-requires : goal.fetch_add-requires
fetch_add-requires g c = let w = c.requires.grown.holds in let entries = g.T.Kept.entries in let xs = g.N.Written.entries in let table = c.self.inside.table.shared in let m = c.args.seat.now.me in (
  search rules,
  search rules,
  subst (λ (z : Me (Option g.row.T.Denot) View). Allows (Orderly entries g.T.Kept.origin (g.T.Kept.origin table.key.value)) table.table_id.slots c.load.new.seat.id z 2 (λ n. (n + 1) % 2 ^ 64) (added xs (step table.table_id.slots 2 1 0 none) z)) (sym c.load.ensures.2.1)
      (⊎_elim (λ (p : xs ≡ m.0.seen). let l = ap (λ (l : List Entry). length l) p in let f = c.load.ensures.2.0 in let t = c.if-load-len.true in let n = w.len_is in absurd (omega arith))
      (λ (t : (e : Entry) × (e.who.caller ≡ m.0.caller) × (xs ≡ m.0.seen ++ e ∷ [])). adds entries g.T.Kept.origin _ _ _ m.0 xs m.1 t.0 w.live w.holds t.2 t.1 (let n = w.len_is in let r = c.ranges.len.fits in omega arith)) w.grown),
)
