-- Which way a test or a step that may fail went.
use Rattle.std.proofs.Common.{◌≡◌, ◌⊎◌, inl, inr, ℕ, Bool, true, false, cond, List, Option, Some, None, Result, Ok, Err, refl, sym, ap}
use Rattle.std.specs.Cmp.Lexicographic.{same_text}
use Rattle.hm_trace.specs.declared.fault.FaultKind.{FaultKind}
use Rattle.hm_trace.specs.Gives.{or_fault, ◌>>=◌}
use Rattle.hm_trace.specs.Names.{is_word}
use Rattle.hm_trace.specs.ReadLines.{fault}

pub chosen : {A : Type 0} (b : Bool) (x y z : A) → cond b x y ≡ z → ((b ≡ true) × (x ≡ z)) ⊎ ((b ≡ false) × (y ≡ z))
chosen true x y z e = inl (refl, e)
chosen false x y z e = inr (refl, e)

-- the value of a step that did not fail
pub bind_ok : {A B E : Type 0} (r : Result A E) (f : A → Result B E) (y : B) → (r >>= f) ≡ Ok y
    → (x : A) × (r ≡ Ok x) × (f x ≡ Ok y)
bind_ok (Ok x) f y e = (x, refl, e)
bind_ok (Err d) f y e = absurd cc

abbrev pub ok : {A : Type 0} → A → Result A FaultKind
ok x = Ok x

pub ok_is : {A : Type 0} (x y : A) → ok x ≡ ok y → x ≡ y
ok_is x y e = cc

pub some_is : {A : Type 0} (fault : FaultKind) (o : Option A) (x : A) → or_fault fault o ≡ Ok x → o ≡ Some x
some_is fault None x e = absurd cc
some_is fault (Some y) x e = ap (λ z. Some z) (ok_is y x e)

pub word_is : (word text : List ℕ) → is_word word text ≡ true → word ≡ text
word_is word text e = same_text word text (sym e)
