-- One more region is closed.
use Rattle.std.proofs.Common.{◌≡◌, ℕ, ◌+◌, ◌-◌, ◌<◌, List, [], ◌∷◌, ◌++◌, length, length-append, reverse, slice_index_or, arith, ap, ◌∙◌, sym, subst}
use Rattle.std.proofs.lemmas.List.{get_or_append_left, get_or-reverse, length-reverse}
use Rattle.std.proofs.Math.Seq.{get_or-append_seam}
use Rattle.std.proofs.lemmas.Bool.{cases_lt}
use mathlib.Core.Logic.{inl, inr}
use Rattle.hm_outside.specs.declared.pages.Pages as pages
use Rattle.hm_sizes.specs.declared.config.Config.{Config}
use Rattle.hm_sizes.specs.Origins.{Origin}
use Rattle.hm_turn.specs.Known.{Known, Lock}
use Rattle.hm_heap.specs.Origins.{origin_in}
use Rattle.hm_heap.specs.Passes.{AreLocks, AreOf, region_at}
use Rattle.hm_heap.proofs.Origins.{origin_back}
use Rattle.hm_heap.specs.declared.close.History.{History}
use Rattle.hm_heap.specs.Closes.{Closes, ClosesAll, IsClosed, IsEnd}
use Rattle.hm_heap.proofs.Loops.{ClosesFrom}

before_last : {X : Type 0} (xs ys : List X) (x d : X) (k : ℕ) → xs ≡ ys ++ x ∷ [] → k < length ys → slice_index_or ys k d ≡ slice_index_or xs k d
before_last xs ys x d k e b = sym (ap (λ z. slice_index_or z k d) e ∙ get_or_append_left ys (x ∷ []) d k b)

the_last : {X : Type 0} (xs ys : List X) (x d : X) → xs ≡ ys ++ x ∷ [] → slice_index_or xs (length ys) d ≡ x
the_last xs ys x d e = ap (λ z. slice_index_or z (length ys) d) e ∙ get_or-append_seam ys x [] d

longer_by : {X : Type 0} (xs ys : List X) (x : X) → xs ≡ ys ++ x ∷ [] → length xs ≡ length ys + 1
longer_by {X = X} xs ys x e = ap (λ (z : List X). length z) e ∙ length-append ys (x ∷ [])

module _ {P : Type 0} (meaning : pages.Ghosts P) where
  made_too : {L : Type 0} (locks ls rest : List L) (l : L) (turns ts left : List Known) (t : Known) (hs : List History) (h : History) (ps : List P) (p : P) → ClosesFrom meaning locks turns ls ts hs ps
      → ls ≡ rest ++ l ∷ [] → ts ≡ left ++ t ∷ [] → IsClosed meaning t h p
      → (j k : ℕ) (d : Known) (e : History) (q : P) → j < length (hs ++ h ∷ []) → j + k + 1 ≡ length locks → IsClosed meaning (slice_index_or turns k d) (slice_index_or (hs ++ h ∷ []) j e) (slice_index_or (ps ++ p ∷ []) j q)
  made_too locks ls rest l turns ts left t hs h ps p c is_l is_t w j k d e q b s =
      let a = longer_by ls rest l is_l in
      let a' = longer_by ts left t is_t in
      let m : length (hs ++ h ∷ []) ≡ length hs + 1 = length-append hs (h ∷ []) in
      let n : length ps ≡ length hs = omega (arith, c.histories, c.pages) in
      elim (cases_lt j (length hs)) [
        | inl u ↦ subst (λ (z : P). IsClosed meaning (slice_index_or turns k d) (slice_index_or (hs ++ h ∷ []) j e) z) (sym (get_or_append_left ps (p ∷ []) q j (omega (arith, u, n))))
            (subst (λ (z : History). IsClosed meaning (slice_index_or turns k d) z (slice_index_or ps j q)) (sym (get_or_append_left hs (h ∷ []) e j u)) (c.each j k d e q u s))
        | inr u ↦ let jm : j ≡ length hs = omega arith in
            let jp : j ≡ length ps = omega (arith, jm, n) in
            let kl : k ≡ length left = omega (arith, c.same, c.histories) in
            let last : slice_index_or (hs ++ h ∷ []) j e ≡ h = ap (λ z. slice_index_or (hs ++ h ∷ []) z e) jm ∙ get_or-append_seam hs h [] e in
            let page : slice_index_or (ps ++ p ∷ []) j q ≡ p = ap (λ z. slice_index_or (ps ++ p ∷ []) z q) jp ∙ get_or-append_seam ps p [] q in
            let turn : slice_index_or turns k d ≡ t = sym (c.turns_are k d (omega arith)) ∙ (ap (λ z. slice_index_or ts z d) kl ∙ the_last ts left t d is_t) in
            subst (λ (z : Known). IsClosed meaning z (slice_index_or (hs ++ h ∷ []) j e) (slice_index_or (ps ++ p ∷ []) j q)) (sym turn)
            (subst (λ (z : History). IsClosed meaning t z (slice_index_or (ps ++ p ∷ []) j q)) (sym last) (subst (λ (z : P). IsClosed meaning t h z) (sym page) w))
      ]

  pub closes_more : {L : Type 0} (locks ls rest : List L) (l : L) (turns ts left : List Known) (t : Known) (hs : List History) (h : History) (ps : List P) (p : P) → ClosesFrom meaning locks turns ls ts hs ps
      → ls ≡ rest ++ l ∷ [] → ts ≡ left ++ t ∷ [] → IsClosed meaning t h p → ClosesFrom meaning locks turns rest left (hs ++ h ∷ []) (ps ++ p ∷ [])
  closes_more {L} locks ls rest l turns ts left t hs h ps p c is_l is_t w =
      let a = longer_by ls rest l is_l in
      let b = longer_by ts left t is_t in
      let n : length rest ≡ length left = omega (arith, c.same) in
      let m : length (hs ++ h ∷ []) ≡ length hs + 1 = length-append hs (h ∷ []) in
      let m' : length (ps ++ p ∷ []) ≡ length ps + 1 = length-append ps (p ∷ []) in
      record {
        same = sym n;
        fewer = omega (arith, c.fewer);
        locks_are = λ k d b. before_last ls rest l d k is_l b ∙ c.locks_are k d (omega arith);
        turns_are = λ k d b. before_last ts left t d k is_t (omega arith) ∙ c.turns_are k d (omega arith);
        histories = omega (arith, c.histories);
        pages = omega (arith, c.pages);
        each = λ j k d e q b s. made_too locks ls rest l turns ts left t hs h ps p c is_l is_t w j k d e q b s;
      }

  -- all regions, once none is left
  pub closes_all : {L : Type 0} (locks : List L) (turns : List Known) (locks_left : List L) (turns_left : List Known) (hs : List History) (ps : List P) → length turns ≡ length locks → length locks_left ≡ 0
      → ClosesFrom meaning locks turns locks_left turns_left hs ps → ClosesAll meaning turns (reverse hs) (reverse ps)
  closes_all locks turns locks_left turns_left hs ps same none c = record {
    histories = length-reverse hs ∙ omega (arith, c.histories, none, same);
    pages = length-reverse ps ∙ omega (arith, c.pages, none, same);
    each = λ r t h p lt.
        let in_hs : r < length hs = omega (arith, lt, c.histories, none, same) in
        let in_ps : r < length ps = omega (arith, lt, c.pages, none, same) in
        let n : length hs ≡ length ps = omega (arith, c.histories, c.pages) in
        subst (λ (z : P). IsClosed meaning (slice_index_or turns r t) (slice_index_or (reverse hs) r h) z) (sym (get_or-reverse ps r p in_ps ∙ ap (λ (k : ℕ). slice_index_or ps (k - 1 - r) p) (sym n)))
        (subst (λ (z : History). IsClosed meaning (slice_index_or turns r t) z (slice_index_or ps (length hs - 1 - r) p)) (sym (get_or-reverse hs r h in_hs))
        (c.each (length hs - 1 - r) r t h p (omega (arith, in_hs)) (omega (arith, in_hs, c.histories, none))));
  }

  -- of a heap with these locks
  pub closes_heap : (c : Config) (seed : ℕ) (locks : List Lock) (turns : List Known) (hs : List History) (ps : List P) → AreLocks c seed locks → AreOf locks turns → ClosesAll meaning turns hs ps → Closes meaning c seed turns hs ps
  closes_heap c seed locks turns hs ps are of all = record {
    histories = all.histories;
    pages = all.pages;
    each = λ r t h p lt.
        let below : r < length locks = omega (arith, lt, of.same) in
        let l : Lock = record { id = t.lock; origin = t.knows.origin } in
        let it = are.each r l below in
        let o : Origin = record { config = c; seed = seed; region = region_at c r; told = it.told } in
        let closed = all.each r t h p lt in
        let same : origin_in (slice_index_or turns r t).knows.origin ≡ o = ap origin_in ((of.each r l t below).1 ∙ it.is) ∙ origin_back o in
        record {
          told = it.told;
          told_is = sym (ap (λ (z : Origin). z.told) same);
          end = subst (λ (z : Origin). IsEnd meaning z (slice_index_or hs r h) (slice_index_or ps r p)) same closed.end;
          whole = closed.whole;
        };
  }
