use Rattle.std.proofs.Common.{◌≡◌, ◌∙◌, ℕ, List, Option, None, length, sym, ap, subst, refl, true≢false}
use Rattle.hm_model.specs.Runs.{expand, total}
use Rattle.hm_model.proofs.RunsOf.{length_expand}
use Rattle.hm_sizes.specs.declared.shape.Shape.{Shape}
use Rattle.hm_class_rules.specs.Bytes.{first_trap, write}
use Rattle.hm_class.specs.Access.{trap_in, HaveBytes}
use Rattle.hm_class.specs.Region.{HoldsSlabs}
use Rattle.hm_class.specs.Uses.{Uses}
use Rattle.hm_class.proofs.Accessed.{trap_told, trap_within, begins_inside, have_bytes}
use Rattle.hm_class.proofs.access.fill.Goals as goal

-- what was found over a range is found over as many bytes
found : (p : Shape) (uses : Uses) (a n m : ℕ) (trap : Option ℕ) → n ≡ m → trap ≡ trap_in p uses a n → trap_in p uses a m ≡ trap
found p uses a n m trap same is = ap (λ (x : ℕ). trap_in p uses a x) (sym same) ∙ sym is

pub returns-in-Some-clause-filled : goal.returns-in-Some-clause-filled
returns-in-Some-clause-filled g c = record {
  pages = record { told = refl; owner = refl; count = refl };
  filled = λ told. (
    refl,
    λ s shows h. trap_told c.args.identity.now.shape c.args.slabs.now.slabs s _ c.args.addr (length (expand c.args.runs.now)) c.args.identity.now.served.shape shows h
        ∙ found c.args.identity.now.shape c.args.slabs.now.slabs c.args.addr c.len-len.result (length (expand c.args.runs.now)) _ c.len-len.ensures.bytes c.in-Some.ensures,
  );
}

pub returns-in-Some-clause-within : goal.returns-in-Some-clause-within
returns-in-Some-clause-within g c =
    trap_within c.args.identity.now.shape c.args.slabs.now.slabs c.args.addr (length (expand c.args.runs.now)) _
    (found c.args.identity.now.shape c.args.slabs.now.slabs c.args.addr c.len-len.result (length (expand c.args.runs.now)) _ c.len-len.ensures.bytes c.in-Some.ensures)

pub lends-requires-clause-from : goal.lends-requires-clause-from
lends-requires-clause-from g c κs within =
    (begins_inside c.args.identity.now.shape c.args.slabs.now.slabs c.args.addr (length (expand c.args.runs.now)) c.requires.some
    (found c.args.identity.now.shape c.args.slabs.now.slabs c.args.addr c.len-len.result (length (expand c.args.runs.now)) _ c.len-len.ensures.bytes c.in_default.ensures)).from

pub returns-then-not-lends-clause-filled : goal.returns-then-not-lends-clause-filled
returns-then-not-lends-clause-filled g c = record {
  pages = record { told = refl; owner = refl; count = refl };
  filled = λ told. (
    refl,
    λ s shows h. (let none : first_trap c.args.identity.now.shape s c.args.addr (length (expand c.args.runs.now)) ≡ None = trap_told c.args.identity.now.shape c.args.slabs.now.slabs s _ c.args.addr (length (expand c.args.runs.now)) c.args.identity.now.served.shape shows h
        ∙ found c.args.identity.now.shape c.args.slabs.now.slabs c.args.addr c.len-len.result (length (expand c.args.runs.now)) _ c.len-len.ensures.bytes c.in_default.ensures in
        absurd (true≢false (sym (c.lends.ensures told s h (ap (λ (n : ℕ). first_trap c.args.identity.now.shape s c.args.addr n) c.len-len.ensures.bytes ∙ none)) ∙ c.if-not-lends.true))),
  );
}

pub write-requires-clause-from : goal.write-requires-clause-from
write-requires-clause-from g c κs within =
    (begins_inside c.args.identity.now.shape c.args.slabs.now.slabs c.args.addr (length (expand c.args.runs.now)) c.requires.some
    (found c.args.identity.now.shape c.args.slabs.now.slabs c.args.addr c.len-len.result (length (expand c.args.runs.now)) _ c.len-len.ensures.bytes c.in_default.ensures)).from

pub returns-clause-filled : goal.returns-clause-filled
returns-clause-filled g c = record {
  pages = c.write.ensures.pages;
  filled = λ told s shows h.
      (let none : first_trap c.args.identity.now.shape s c.args.addr (length (expand c.args.runs.now)) ≡ None = trap_told c.args.identity.now.shape c.args.slabs.now.slabs s _ c.args.addr (length (expand c.args.runs.now)) c.args.identity.now.served.shape shows h
      ∙ found c.args.identity.now.shape c.args.slabs.now.slabs c.args.addr c.len-len.result (length (expand c.args.runs.now)) _ c.len-len.ensures.bytes c.in_default.ensures in (
        none,
        subst (λ (l : List (ℕ × ℕ)). HoldsSlabs c.args.identity.now.shape (write c.args.identity.now.shape c.args.addr (expand l) s).opens (g.P.Pages.runs c.write.new.pages)) c.pairs.ensures
            (c.write.ensures.written told s h (subst (λ (n : ℕ). HaveBytes c.args.identity.now.shape s c.args.addr n) (length_expand c.args.runs.now ∙ ap total (sym c.pairs.ensures))
            (have_bytes c.args.identity.now.shape s (g.P.Pages.runs c.args.pages.now) c.args.addr (length (expand c.args.runs.now)) h none))),
      ));
}
