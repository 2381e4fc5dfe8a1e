-- Choices that are the same field by field.
use Rattle.std.proofs.Common.{◌≡◌, Bool, true, ◌&&◌, ap}
use Rattle.std.proofs.lemmas.Bool.{and_parts}
use Rattle.hm_model.specs.declared.entry.Choices.{Choices}

pub same_choices : (a b : Choices) (t u v w x y z : Bool)
    → (t ≡ true → a.canary ≡ b.canary) × (a.canary ≡ b.canary → t ≡ true) → (u ≡ true → a.opened ≡ b.opened) × (a.opened ≡ b.opened → u ≡ true)
    → (v ≡ true → a.released ≡ b.released) × (a.released ≡ b.released → v ≡ true) → (w ≡ true → a.retired ≡ b.retired) × (a.retired ≡ b.retired → w ≡ true)
    → (x ≡ true → a.purged ≡ b.purged) × (a.purged ≡ b.purged → x ≡ true) → (y ≡ true → a.unparked ≡ b.unparked) × (a.unparked ≡ b.unparked → y ≡ true)
    → (z ≡ true → a.guard ≡ b.guard) × (a.guard ≡ b.guard → z ≡ true)
    → (((((((t && u) && v) && w) && x) && y) && z) ≡ true → a ≡ b) × (a ≡ b → ((((((t && u) && v) && w) && x) && y) && z) ≡ true)
same_choices a b t u v w x y z ht hu hv hw hx hy hz = (
  λ e.
      let p6 = and_parts (((((t && u) && v) && w) && x) && y) z e in
      let p5 = and_parts ((((t && u) && v) && w) && x) y p6.0 in
      let p4 = and_parts (((t && u) && v) && w) x p5.0 in
      let p3 = and_parts ((t && u) && v) w p4.0 in
      let p2 = and_parts (t && u) v p3.0 in
      let p1 = and_parts t u p2.0 in
      λ i. record {
        canary = ht.0 p1.0 i;
        opened = hu.0 p1.1 i;
        released = hv.0 p2.1 i;
        retired = hw.0 p3.1 i;
        purged = hx.0 p4.1 i;
        unparked = hy.0 p5.1 i;
        guard = hz.0 p6.1 i;
      },
  λ e. λ i. (((((ht.1 (ap (λ (c : Choices). c.canary) e) i && hu.1 (ap (λ (c : Choices). c.opened) e) i) && hv.1 (ap (λ (c : Choices). c.released) e) i)
      && hw.1 (ap (λ (c : Choices). c.retired) e) i) && hx.1 (ap (λ (c : Choices). c.purged) e) i) && hy.1 (ap (λ (c : Choices). c.unparked) e) i)
      && hz.1 (ap (λ (c : Choices). c.guard) e) i,
)
