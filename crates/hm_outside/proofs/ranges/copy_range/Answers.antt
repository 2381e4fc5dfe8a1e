use Rattle.std.proofs.Common.{◌≡◌, ℕ, ◌+◌, ◌-◌, ◌≤◌, List, ◌++◌, length, take, drop, sym, ap, ◌∙◌, arith}
use Rattle.std.proofs.lemmas.List.{length-take, length-drop}
use Rattle.std.proofs.lemmas.Slice.{take-put_mid}
use borrow.Rule.Slice.PartMut.{same_len_mid}
use Rattle.hm_outside.specs.Piece.{bytes_in}
use Rattle.hm_outside.proofs.Pieces.{front_on}
use Rattle.hm_outside.proofs.ranges.copy_range.Goals as goal

pub loop-done-preserved : goal.loop-done-preserved
loop-done-preserved g c =
    let piece = bytes_in c.in-Some.piece in let into = c.loop-done.into in let done = c.loop-done.done in
    let n = c.len.result in
    let new = c.copy_to.new.into in
    let k = done + n - done in
    let most : done + n ≤ length c.args.into.now = omega (arith, c.in-Some.ensures.most, c.len.ensures) in
    let long : length new ≡ n = ap (λ (l : List ℕ). length l) c.copy_to.ensures ∙ sym c.len.ensures in
    let inside : done ≤ length into = omega (arith, c.loop-done.invariant.count, c.loop-done.invariant.within) in record {
      within = most;
      held = λ told some. (c.in-Some.ensures.value told).0;
      count = same_len_mid done k into new (omega (arith, long, most, c.loop-done.invariant.count, length-take k (drop done into), length-drop done into)) ∙ c.loop-done.invariant.count;
      read = λ told q b has lies.
          take-put_mid done k into new (done + n) (omega (arith, long)) inside
          ∙ ap (λ (l : List ℕ). take done into ++ l) c.copy_to.ensures
          ∙ ap (λ (l : List ℕ). l ++ piece) (c.loop-done.invariant.read told q b has lies)
          ∙ front_on b (c.args.addr - q) done piece ((c.in-Some.ensures.value told).1 q b has lies)
          ∙ ap (λ (m : ℕ). take (done + m) (drop (c.args.addr - q) b)) (sym c.len.ensures);
    }

pub returns-clause-held : goal.returns-clause-held
returns-clause-held g c = λ told some yes. c.loop-done.invariant.held told (omega (arith, some, c.loop-done.invariant.within, c.loop-done-test.false))
