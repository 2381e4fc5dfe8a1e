use Rattle.std.proofs.Common.{ℕ, ◌+◌, ◌-◌, List, take, drop, sym, ap, ◌∙◌, arith}
use Rattle.hm_outside.proofs.Pieces.{reads_in}
use Rattle.hm_class_rules.specs.Bytes.{first_nonzero}
use Rattle.hm_class.proofs.Pieces.{none_on, found_in}
use Rattle.hm_class.proofs.slot_bytes.first_nonzero.Goals as goal

pub returns-in-Some-clause-value : goal.returns-in-Some-clause-value
returns-in-Some-clause-value g c = λ told held.
    (let q = held.0 in let b : List ℕ = held.1 in let runs = g.P.Pages.runs c.args.pages.now in let start = c.args.addr - q in (
      take c.args.len (drop start b),
      reads_in runs c.args.addr c.args.len q b held.2 held.3,
      sym (found_in b start c.args.len c.loop-done.done ((c.in_ok-piece.ensures.value told).1 q b held.2 held.3) c.in_ok-piece.ensures.most (omega (arith, held.3.from, held.3.to)) (c.loop-done.invariant.zero told q b held.2 held.3)
          (sym c.first_in.ensures.value ∙ c.in-Some.is)),
    ))

pub loop-done-preserved : goal.loop-done-preserved
loop-done-preserved g c = record {
  within = omega (arith, c.in_ok-piece.ensures.most, c.len-done.ensures);
  zero = λ told q b has lies. ap (λ (n : ℕ). first_nonzero (take (c.loop-done.done + n) (drop (c.args.addr - q) b))) c.len-done.ensures
      ∙ none_on b (c.args.addr - q) c.loop-done.done ((c.in_ok-piece.ensures.value told).1 q b has lies) (c.loop-done.invariant.zero told q b has lies) (sym c.first_in.ensures.value ∙ c.in_default.is);
}

pub returns-clause-value : goal.returns-clause-value
returns-clause-value g c = λ told held.
    (let q = held.0 in let b : List ℕ = held.1 in let runs = g.P.Pages.runs c.args.pages.now in (
      take c.args.len (drop (c.args.addr - q) b),
      reads_in runs c.args.addr c.args.len q b held.2 held.3,
      sym (ap (λ (n : ℕ). first_nonzero (take n (drop (c.args.addr - q) b))) {x = c.args.len} {y = c.loop-done.done} (omega (arith, c.loop-done.invariant.within, c.loop-done-test.false)) ∙ c.loop-done.invariant.zero told q b held.2 held.3),
    ))

pub returns-in-Some-clause-lent : goal.returns-in-Some-clause-lent
returns-in-Some-clause-lent g c = λ told. (c.in_ok-piece.ensures.value told).0
