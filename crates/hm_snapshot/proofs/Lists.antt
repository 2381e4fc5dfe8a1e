-- Lists of changes, their beginnings, and what they make.
use Rattle.std.proofs.Common.{◌≡◌, ◌+◌, List, [], ◌∷◌, ◌++◌, length, length-append, fold, sym, refl, ap, ◌∙◌, append_assoc, arith}
use Rattle.std.proofs.lemmas.List.{append-nil}
use Rattle.std.proofs.lemmas.List.Sums.{fold-append}
use Rattle.hm_model.specs.declared.change.SizeChange.{SizeChange}
use Rattle.hm_model.specs.Changes.{changed, sizes}
use Rattle.hm_snapshot.specs.Rule.{StartsWith}
use Rattle.hm_snapshot.specs.Shown.{Shown, nothing, absorbed, shown_after}

pub starts_itself : (a : List SizeChange) → StartsWith a a
starts_itself a = ([], sym (append-nil a))

pub starts_longer : (a b m : List SizeChange) → StartsWith a b → StartsWith (a ++ m) b
starts_longer a b m s = (s.0 ++ m, ap (λ z. z ++ m) s.1 ∙ append_assoc b s.0 m)

pub starts_nothing : (a : List SizeChange) → StartsWith a []
starts_nothing a = (a, refl)

none_more : (xs : List SizeChange) → length xs ≡ 0 → xs ≡ []
none_more [] e = refl
none_more (x ∷ xs) e = absurd (omega arith)

-- a beginning as long as the list is the list
pub whole_beginning : (a b : List SizeChange) → StartsWith a b → length b ≡ length a → a ≡ b
whole_beginning a b s e = let n : length a ≡ length b + length s.0 = ap (λ (z : List SizeChange). length z) s.1 ∙ length-append b s.0 in
    let none : s.0 ≡ [] = none_more s.0 (omega arith) in s.1 ∙ (ap (λ z. b ++ z) none ∙ append-nil b)

counted : (x : Shown) (changes : List SizeChange) → (fold absorbed x changes).count ≡ x.count + length changes
counted x [] = omega arith
counted x (c ∷ cs) = let n : (fold absorbed (absorbed x c) cs).count ≡ x.count + 1 + length cs = counted (absorbed x c) cs in omega arith

-- what is shown counts its changes
pub count_after : (changes : List SizeChange) → (shown_after changes).count ≡ length changes
count_after changes = let n : (fold absorbed nothing changes).count ≡ 0 + length changes = counted nothing changes in omega arith

mapped : (x : Shown) (changes : List SizeChange) → (fold absorbed x changes).map ≡ fold changed x.map changes
mapped x [] = refl
mapped x (c ∷ cs) = mapped (absorbed x c) cs

-- what is shown has the map of its changes
pub map_after : (changes : List SizeChange) → (shown_after changes).map ≡ sizes changes
map_after changes = mapped nothing changes

pub after-append : (a b : List SizeChange) → shown_after (a ++ b) ≡ fold absorbed (shown_after a) b
after-append a b = fold-append absorbed nothing a b

-- what two lists of changes show alike they have as many of
pub same_length : (a b : List SizeChange) → shown_after a ≡ shown_after b → length a ≡ length b
same_length a b e = sym (count_after a) ∙ (ap (λ (x : Shown). x.count) e ∙ count_after b)
