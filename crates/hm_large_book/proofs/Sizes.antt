-- What is known of a live block by how far it reaches.
use Rattle.std.proofs.Common.{◌≡◌, ℕ, ◌==◌, Bool, true, false, Option, Some, None, option_map, is_some, refl, sym, ◌∙◌, ap, true≢false}
use Rattle.std.specs.Prelude.{◌↔◌}
use Rattle.std.proofs.lemmas.Option.{none-some, same_Some}
use Rattle.hm_model.specs.Maps.{at}
use Rattle.hm_model.proofs.Lists.{same_eq, eq_same}
use Rattle.hm_large_rules.specs.State.{Block, Blocks}
use Rattle.hm_large_rules.specs.Rules.{wrong_size}
use Rattle.hm_large_book.specs.declared.blocks.Extent.{Extent}
use Rattle.hm_large_book.specs.Book.{extent_of, Accepts}

-- a block is there exactly where its reach is
pub is_there : (o : Option Block) (r : Option Extent) (b : Bool) → r ≡ option_map extent_of o → b ≡ is_some r → b ≡ is_some o
is_there o r b is e = e ∙ ap is_some is ∙ both o
  where
    both : (o : Option Block) → is_some (option_map extent_of o) ≡ is_some o
    both None = refl
    both (Some x) = refl

pub block_there : (o : Option Block) (extent : Extent) → Some extent ≡ option_map extent_of o → (x : Block) × (o ≡ Some x) × (extent ≡ extent_of x)
block_there None extent e = absurd (none-some extent (sym e))
block_there (Some x) extent e = (x, refl, same_Some extent (extent_of x) e)

pub none_there : (o : Option Block) → None ≡ option_map extent_of o → o ≡ None
none_there None e = refl
none_there (Some x) e = absurd (none-some (extent_of x) e)

false_true : false ≡ true → ⊥
false_true e = true≢false (sym e)

pub size_there : (o : Option Block) (extent : Extent) (size : ℕ) → Some extent ≡ option_map extent_of o → ((extent.size == size) ≡ true) ↔ (option_map (λ (b : Block). b.size) o ≡ Some size)
size_there o extent size e =
    let x = block_there o extent e in
    let size_is : extent.size ≡ x.0.size = ap (λ (r : Extent). r.size) x.2 in (
      (λ t. ap (option_map (λ (b : Block). b.size)) x.1 ∙ ap Some (sym size_is ∙ eq_same extent.size size t)),
      (λ h. same_eq extent.size size (size_is ∙ same_Some x.0.size size (sym (ap (option_map (λ (b : Block). b.size)) x.1) ∙ h))),
    )

pub size_none : (o : Option Block) (size : ℕ) → None ≡ option_map extent_of o → (false ≡ true) ↔ (option_map (λ (b : Block). b.size) o ≡ Some size)
size_none o size e = ((λ t. absurd (false_true t)), (λ h. absurd (none-some size (sym (ap (option_map (λ (b : Block). b.size)) (none_there o e)) ∙ h))))

-- the sizes that differ
pub wrong_there : (o : Option Block) (extent : Extent) (stated : Option ℕ) (w : Option (ℕ × ℕ)) → Some extent ≡ option_map extent_of o → ((b : Block) → b.size ≡ extent.size → w ≡ wrong_size (Some b) stated) → w ≡ wrong_size o stated
wrong_there o extent stated w e is =
    let x = block_there o extent e in
    is x.0 (sym (ap (λ (r : Extent). r.size) x.2)) ∙ ap (λ (p : Option Block). wrong_size p stated) (sym x.1)

pub wrong_none : (o : Option Block) (stated : Option ℕ) (sizes : ℕ × ℕ) → None ≡ option_map extent_of o → (false ≡ true) ↔ (wrong_size o stated ≡ Some sizes)
wrong_none o stated sizes e = ((λ t. absurd (false_true t)), (λ h. absurd (none-some sizes (sym (ap (λ (p : Option Block). wrong_size p stated) (none_there o e)) ∙ h))))

-- ---- a block that is accepted
pub accepted_some : (m : Blocks) (a : ℕ) (stated : Option ℕ) (extent : Extent) (w : Option (ℕ × ℕ)) → Some extent ≡ option_map extent_of (at a m) → ((b : Block) → b.size ≡ extent.size → w ≡ wrong_size (Some b) stated) → w ≡ None
    → Accepts m a stated extent
accepted_some m a stated extent w e is none =
    let x = block_there (at a m) extent e in
    record { block = x.0; there = x.1; reach = x.2; size = sym (is x.0 (sym (ap (λ (r : Extent). r.size) x.2))) ∙ none }

pub accepted_other : (m : Blocks) (a : ℕ) (stated : Option ℕ) (extent : Extent) (w : Option (ℕ × ℕ)) → Some extent ≡ option_map extent_of (at a m) → ((b : Block) → b.size ≡ extent.size → w ≡ wrong_size (Some b) stated)
    → (w ≡ None → ⊥) → (other : Extent) → Accepts m a stated other → ⊥
accepted_other m a stated extent w e is some other acc =
    let x = block_there (at a m) extent e in
    let same : x.0 ≡ acc.block = same_Some x.0 acc.block (sym x.1 ∙ acc.there) in
    some (is x.0 (sym (ap (λ (r : Extent). r.size) x.2)) ∙ ap (λ (b : Block). wrong_size (Some b) stated) same ∙ acc.size)

pub accepted_none : (m : Blocks) (a : ℕ) (stated : Option ℕ) → None ≡ option_map extent_of (at a m) → (other : Extent) → Accepts m a stated other → ⊥
accepted_none m a stated e other acc = none-some acc.block (sym (none_there (at a m) e) ∙ acc.there)

-- ---- a number that was found
pub number_there : (o : Option ℕ) (found n : ℕ) → Some found ≡ o → ((found == n) ≡ true) ↔ (o ≡ Some n)
number_there o found n e = ((λ t. sym e ∙ ap Some (eq_same found n t)), (λ h. same_eq found n (same_Some found n (e ∙ h))))

pub number_none : (o : Option ℕ) (n : ℕ) → None ≡ o → (false ≡ true) ↔ (o ≡ Some n)
number_none o n e = ((λ t. absurd (false_true t)), (λ h. absurd (none-some n (e ∙ h))))
