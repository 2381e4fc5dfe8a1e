-- The calls of one caller in a history and in its beginnings.
use Rattle.std.proofs.Common.{◌≡◌, ◌≤◌, ◌+◌, ℕ, List, [], ◌∷◌, ◌++◌, length, length-append, sym, refl, ap, ◌∙◌, eqb, append_assoc, arith}
use Rattle.std.proofs.lemmas.List.{append-nil}
use Rattle.std.proofs.lemmas.List.Elements.{filter-append}
use Rattle.hm_model.specs.declared.entry.Entry.{Entry}
use Rattle.hm_model.specs.Entries.{calls_of}
use Rattle.hm_turn.specs.Histories.{StartsWith}

-- calls_of, with the caller first
abbrev pub calls_by : ℕ → List Entry → List Entry
calls_by c h = calls_of h c

pub calls_by-append : (caller : ℕ) (a b : List Entry) → calls_by caller (a ++ b) ≡ calls_by caller a ++ calls_by caller b
calls_by-append caller a b = filter-append (λ (e : Entry). eqb e.who.caller caller) a b

pub starts_itself : (a : List Entry) → StartsWith a a
starts_itself a = ([], sym (append-nil a))

pub starts_longer : (a b m : List Entry) → StartsWith a b → StartsWith (a ++ m) b
starts_longer a b m s = (s.0 ++ m, ap (λ z. z ++ m) s.1 ∙ append_assoc b s.0 m)

begins : (a b m n : List Entry) → a ++ m ≡ b ++ n → length a ≤ length b → StartsWith b a
begins [] b m n e l = (b, refl)
begins (x ∷ xs) [] m n e l = absurd (omega arith)
begins (x ∷ xs) (y ∷ ys) m n e l = let p : x ≡ y = cc in let q : xs ++ m ≡ ys ++ n = cc in let t = begins xs ys m n q (omega arith) in (t.0, λ i. sym p i ∷ t.1 i)

-- of two beginnings of one history the shorter begins the longer
pub begins_longer : (h a b : List Entry) → StartsWith h a → StartsWith h b → length a ≤ length b → StartsWith b a
begins_longer h a b p q l = begins a b p.0 q.0 (sym p.1 ∙ q.1) l

empty : {A : Type 0} (xs : List A) → length xs ≡ 0 → xs ≡ []
empty [] e = refl
empty (x ∷ xs) e = absurd (omega arith)

-- who made no call between a and the whole made none between a and b
pub calls_between : (c : ℕ) (h a b k : List Entry) → StartsWith h a → StartsWith h b → length a ≤ length b → calls_by c a ≡ k → calls_by c h ≡ k → calls_by c b ≡ k
calls_between c h a b k p q l here all = let t = begins_longer h a b p q l in
    let first : calls_by c b ≡ calls_by c a ++ calls_by c t.0 = ap (calls_by c) t.1 ∙ calls_by-append c a t.0 in
    let whole : calls_by c h ≡ calls_by c b ++ calls_by c q.0 = ap (calls_by c) q.1 ∙ calls_by-append c b q.0 in
    let n : length (calls_by c h) ≡ length (calls_by c b) + length (calls_by c q.0) = ap (λ (z : List Entry). length z) whole ∙ length-append (calls_by c b) (calls_by c q.0) in
    let m : length (calls_by c b) ≡ length (calls_by c a) + length (calls_by c t.0) = ap (λ (z : List Entry). length z) first ∙ length-append (calls_by c a) (calls_by c t.0) in
    let s : length (calls_by c h) ≡ length (calls_by c a) = ap (λ (z : List Entry). length z) (all ∙ sym here) in
    let none : calls_by c t.0 ≡ [] = empty (calls_by c t.0) (omega arith) in
    first ∙ (ap (λ z. calls_by c a ++ z) none ∙ (append-nil (calls_by c a) ∙ here))

pub calls_by_begun : (c : ℕ) (h a : List Entry) → StartsWith h a → calls_by c h ≡ [] → calls_by c a ≡ []
calls_by_begun c h a p none = let whole : calls_by c h ≡ calls_by c a ++ calls_by c p.0 = ap (calls_by c) p.1 ∙ calls_by-append c a p.0 in
    let n : length (calls_by c h) ≡ length (calls_by c a) + length (calls_by c p.0) = ap (λ (z : List Entry). length z) whole ∙ length-append (calls_by c a) (calls_by c p.0) in
    let z : length (calls_by c h) ≡ 0 = ap (λ (z : List Entry). length z) none in
    empty (calls_by c a) (omega arith)
