-- Which addresses are accessible, and reading and writing slab by slab.
use Rattle.std.proofs.Common.{◌≡◌, ⊎_elim, ℕ, zero, suc, ◌+◌, ◌-◌, ◌%◌, ◌<◌, ◌≤◌, min, Bool, true, false, cond, not, ◌&&◌, nat_lt, List, [], ◌∷◌, ◌++◌, length, take, drop, replicate, slice_get, Option, Some, None, is_some, unwrap_or, sym, ◌∙◌, ap, subst, refl, arith, true≢false}
use Rattle.std.specs.Option.{option_and_then}
use Rattle.std.proofs.lemmas.Bool.{cases_eq}
use Rattle.std.proofs.lemmas.Bool.Decides.{nat_tests}
use Rattle.std.proofs.lemmas.Nat.{div-add-mod', mod_below}
use Rattle.std.proofs.lemmas.List.{length-replicate, replicate-append-replicate}
use Rattle.std.proofs.lemmas.Option.{none-some, same_Some}
use Rattle.hm_outside.specs.PageRuns.{PageRuns, IsHeld, Reads, Writes}
use Rattle.hm_model.specs.Maps.{at}
use Rattle.hm_model.specs.Overlaid.{overlaid}
use Rattle.hm_model.specs.Replies.{IsWithin}
use Rattle.hm_model.proofs.Overlaid.{overlaid_two, overlaid_nil}
use Rattle.hm_sizes.specs.declared.shape.Shape.{Shape}
use Rattle.hm_sizes.specs.Shapes.{IsShape, slab_at, slab_of, has_bytes}
use Rattle.hm_class_rules.specs.State.{State, Slab, is_open}
use Rattle.hm_class_rules.specs.Bytes.{byte_at, bytes_read, first_trap, write, overlaid_slabs}
use Rattle.hm_class_rules.specs.Laws.{AllWhole, bytes_of_slab}
use Rattle.hm_class.specs.Access.{is_accessible, trap_in, HasByte, HaveBytes}
use Rattle.hm_class.specs.Kept.{Shows}
use Rattle.hm_class.specs.Region.{HoldsSlabs}
use Rattle.hm_class.specs.Uses.{Uses, open_at}
use Rattle.hm_class_rules.proofs.Zeroed.{opens_some, byte_in, bytes_in, slab_is}
use Rattle.hm_class.proofs.Entered.{has_overlaid}
use Rattle.hm_class.proofs.Paged.{all_bytes, held_in, reads_bytes, holds_write}
use Rattle.hm_class.proofs.Places.{slab_some}

-- ---- the slab of an address
pub slab_from : (p : Shape) (a : ℕ) → IsShape p → p.first ≤ a → slab_at p (slab_of p a) ≤ a
slab_from p a shape from = omega (arith, div-add-mod' (a - p.first) p.slab)

pub slab_to : (p : Shape) (a : ℕ) → IsShape p → p.first ≤ a → a < slab_at p (slab_of p a) + p.slab
slab_to p a shape from = omega (arith, div-add-mod' (a - p.first) p.slab, mod_below (a - p.first) p.slab (omega (arith, slab_some p shape)))

-- addresses of one slab
pub same_slab : (p : Shape) (a q : ℕ) → IsShape p → p.first ≤ a → a ≤ q → q < slab_at p (slab_of p a) + p.slab → slab_of p q ≡ slab_of p a
same_slab p a q shape from le lt =
    let start : slab_at p (slab_of p a) ≤ a = slab_from p a shape from in
    slab_is p (slab_of p a) (q - slab_at p (slab_of p a)) q (omega arith) (omega arith)

-- ---- the first address that is not accessible
above : (a f : ℕ) → nat_lt a f ≡ false → f ≤ a
above a f e = grind (arith, nat_tests)

not_above : (a f : ℕ) → f ≤ a → nat_lt a f ≡ false
not_above a f le = grind (arith, nat_tests)

-- an accessible address lies from the first slab on, in an open one
pub record IsInside (p : Shape) (uses : Uses) (q : ℕ) : Type 0 where
  pub own : has_bytes p ≡ true
  pub from : p.first ≤ q
  pub open_slab : open_at uses (slab_of p q) ≡ true

pub inside : (p : Shape) (uses : Uses) (q : ℕ) → is_accessible p uses q ≡ true → IsInside p uses q
inside p uses q e =
    let a = parts (has_bytes p) (not (nat_lt q p.first) && open_at uses (slab_of p q)) e in
    let b = parts (not (nat_lt q p.first)) (open_at uses (slab_of p q)) a.1 in
    record { own = a.0; from = above q p.first (from_not (nat_lt q p.first) b.0); open_slab = b.1 }
  where
    parts : (a b : Bool) → (a && b) ≡ true → (a ≡ true) × (b ≡ true)
    parts true b e = (refl, e)
    parts false b e = absurd (true≢false (sym e))

    from_not : (b : Bool) → not b ≡ true → b ≡ false
    from_not true e = sym e
    from_not false e = refl

-- so is what follows it in its slab
pub accessible_on : (p : Shape) (uses : Uses) (a q : ℕ) → IsShape p → is_accessible p uses a ≡ true → a ≤ q → q < slab_at p (slab_of p a) + p.slab → is_accessible p uses q ≡ true
accessible_on p uses a q shape e le lt =
    let i = inside p uses a e in
    let slab : slab_of p q ≡ slab_of p a = same_slab p a q shape i.from le lt in
    ap (λ (b : Bool). b && (not (nat_lt q p.first) && open_at uses (slab_of p q))) i.own
    ∙ ap (λ (b : Bool). not b && open_at uses (slab_of p q)) (not_above q p.first (omega (arith, i.from)))
    ∙ ap (λ (n : ℕ). open_at uses n) slab ∙ i.open_slab

trap_skip : (p : Shape) (uses : Uses) (a k n : ℕ) → ((j : ℕ) → j < k → is_accessible p uses (a + j) ≡ true) → trap_in p uses a n ≡ trap_in p uses (a + k) (n - k)
trap_skip p uses a zero n on = ap (λ (q : ℕ). trap_in p uses q n) (omega arith) ∙ ap (λ (m : ℕ). trap_in p uses (a + 0) m) (omega arith)
trap_skip p uses a (suc k) zero on = ap (λ (m : ℕ). trap_in p uses (a + suc k) m) (none (suc k))
  where
    none : (k : ℕ) → 0 ≡ 0 - k
    none k = omega arith
trap_skip p uses a (suc k) (suc n) on =
    ap (λ (b : Bool). cond b (trap_in p uses (a + 1) n) (Some a)) (ap (λ (q : ℕ). is_accessible p uses q) (omega arith) ∙ on 0 (omega arith))
    ∙ trap_skip p uses (a + 1) k n (λ j lt. ap (λ (q : ℕ). is_accessible p uses q) (next j) ∙ on (suc j) (omega arith))
    ∙ ap (λ (q : ℕ). trap_in p uses q (n - k)) (next k) ∙ ap (λ (m : ℕ). trap_in p uses (a + suc k) m) (less n k)
  where
    next : (j : ℕ) → a + 1 + j ≡ a + suc j
    next j = omega arith

    less : (n k : ℕ) → n - k ≡ suc n - suc k
    less n k = omega arith

-- the search goes on at the end of the slab
pub trap_on : (p : Shape) (uses : Uses) (a end q : ℕ) → IsShape p → is_accessible p uses a ≡ true → q ≡ slab_at p (slab_of p a) + p.slab → trap_in p uses a (end - a) ≡ trap_in p uses q (end - q)
trap_on p uses a end q shape e is =
    let i = inside p uses a e in
    let lt : a < slab_at p (slab_of p a) + p.slab = slab_to p a shape i.from in
    trap_skip p uses a (q - a) (end - a) (λ j less. accessible_on p uses a (a + j) shape e (omega arith) (omega (arith, less, is)))
    ∙ ap (λ (x : ℕ). trap_in p uses x ((end - a) - (q - a))) (omega (arith, is)) ∙ ap (λ (n : ℕ). trap_in p uses q n) (omega (arith, is))

-- an address that is not accessible is the first one
pub trap_here : (p : Shape) (uses : Uses) (a n : ℕ) → 1 ≤ n → is_accessible p uses a ≡ false → trap_in p uses a n ≡ Some a
trap_here p uses a zero some off = absurd (omega (arith, some))
trap_here p uses a (suc n) some off = ap (λ (b : Bool). cond b (trap_in p uses (a + 1) n) (Some a)) off

-- where there is no trap the first address is accessible
pub begins_inside : (p : Shape) (uses : Uses) (a n : ℕ) → 1 ≤ n → trap_in p uses a n ≡ None → IsInside p uses a
begins_inside p uses a zero some e = absurd (omega arith)
begins_inside p uses a (suc n) some e =
    elim (is_accessible p uses a) as (λ t. is_accessible p uses a ≡ t → cond t (trap_in p uses (a + 1) n) (Some a) ≡ None → IsInside p uses a) [
      | true ↦ λ is h. inside p uses a is
      | false ↦ λ is h. absurd (none-some a (sym h))
    ] refl e

-- ---- accessible addresses of the state
get_some : (bs : List ℕ) (i : ℕ) → i < length bs → is_some (slice_get bs i) ≡ true
get_some [] i lt = absurd (omega arith)
get_some (b ∷ bs) zero lt = refl
get_some (b ∷ bs) (suc i) lt = get_some bs i (omega arith)

get_none : (bs : List ℕ) (i : ℕ) → length bs ≡ 0 → is_some (slice_get bs i) ≡ false
get_none [] i e = refl
get_none (b ∷ bs) i e = absurd (omega (arith, e))

-- an address has a byte where it is accessible
pub byte_whole : (p : Shape) (uses : Uses) (s : State) (q : ℕ) → IsShape p → Shows p uses s → AllWhole (bytes_of_slab p) s.opens → is_some (byte_at p s q) ≡ is_accessible p uses q
byte_whole p uses s q shape shows whole = of_class (has_bytes p) refl
  where
    byte : Option Slab → Option ℕ
    byte o = option_and_then (λ (b : Slab). slice_get b.bytes ((q - p.first) % p.slab)) o

    of_open : (o : Option Slab) → at (slab_of p q) s.opens ≡ o → has_bytes p ≡ true → is_some (option_and_then (λ (b : Slab). slice_get b.bytes ((q - p.first) % p.slab)) o) ≡ is_some o
    of_open None is own = refl
    of_open (Some b) is own = get_some b.bytes ((q - p.first) % p.slab) (omega (arith, mod_below (q - p.first) p.slab (omega (arith, slab_some p shape)), whole (slab_of p q) b is ∙ ap (λ (t : Bool). cond t p.slab 0) own))

    of_none : (o : Option Slab) → at (slab_of p q) s.opens ≡ o → has_bytes p ≡ false → is_some (option_and_then (λ (b : Slab). slice_get b.bytes ((q - p.first) % p.slab)) o) ≡ false
    of_none None is own = refl
    of_none (Some b) is own = get_none b.bytes ((q - p.first) % p.slab) (whole (slab_of p q) b is ∙ ap (λ (t : Bool). cond t p.slab 0) own)

    before : (t : Bool) → is_some (cond t None (option_and_then (λ (b : Slab). slice_get b.bytes ((q - p.first) % p.slab)) (at (slab_of p q) s.opens))) ≡ (not t && is_some (option_and_then (λ (b : Slab). slice_get b.bytes ((q - p.first) % p.slab)) (at (slab_of p q) s.opens)))
    before true = refl
    before false = refl

    none_and : (t : Bool) → (not t && false) ≡ false
    none_and true = refl
    none_and false = refl

    of_class : (own : Bool) → has_bytes p ≡ own → is_some (byte_at p s q) ≡ is_accessible p uses q
    of_class true own =
        before (nat_lt q p.first)
        ∙ ap (λ (b : Bool). not (nat_lt q p.first) && b) (of_open (at (slab_of p q) s.opens) refl own ∙ shows.opens (slab_of p q))
        ∙ sym (ap (λ (b : Bool). b && (not (nat_lt q p.first) && open_at uses (slab_of p q))) own)
    of_class false own =
        before (nat_lt q p.first)
        ∙ ap (λ (b : Bool). not (nat_lt q p.first) && b) (of_none (at (slab_of p q) s.opens) refl own)
        ∙ none_and (nat_lt q p.first)
        ∙ sym (ap (λ (b : Bool). b && (not (nat_lt q p.first) && open_at uses (slab_of p q))) own)

pub trap_whole : (p : Shape) (uses : Uses) (s : State) (a n : ℕ) → IsShape p → Shows p uses s → AllWhole (bytes_of_slab p) s.opens → first_trap p s a n ≡ trap_in p uses a n
trap_whole p uses s a zero shape shows whole = refl
trap_whole p uses s a (suc n) shape shows whole =
    ap (λ (b : Bool). cond b (first_trap p s (a + 1) n) (Some a)) (byte_whole p uses s a shape shows whole)
    ∙ ap (λ (o : Option ℕ). cond (is_accessible p uses a) o (Some a)) (trap_whole p uses s (a + 1) n shape shows whole)

pub trap_told : (p : Shape) (uses : Uses) (s : State) (runs : PageRuns) (a n : ℕ) → IsShape p → Shows p uses s → HoldsSlabs p s.opens runs → first_trap p s a n ≡ trap_in p uses a n
trap_told p uses s runs a n shape shows h = trap_whole p uses s a n shape shows h.whole

-- it is an address of the range
within_later : (b : Bool) (a n q : ℕ) (later : Option ℕ) → (later ≡ Some q → IsWithin (a + 1) n q) → cond b later (Some a) ≡ Some q → IsWithin a (suc n) q
within_later true a n q later within e = (omega (arith, (within e).0), omega (arith, (within e).1))
within_later false a n q later within e = (omega (arith, same_Some a q e), omega (arith, same_Some a q e))

pub trap_within : (p : Shape) (uses : Uses) (a n q : ℕ) → trap_in p uses a n ≡ Some q → IsWithin a n q
trap_within p uses a zero q e = absurd (none-some q e)
trap_within p uses a (suc n) q e = within_later (is_accessible p uses a) a n q (trap_in p uses (a + 1) n) (trap_within p uses (a + 1) n q) e

-- ---- ranges without a trap
-- an address with a byte lies in an open slab, and slabs have bytes
pub byte_open : (p : Shape) (s : State) (runs : PageRuns) (q : ℕ) → HoldsSlabs p s.opens runs → is_some (byte_at p s q) ≡ true → HasByte p s q
byte_open p s runs q h e =
    elim (nat_lt q p.first) as (λ t. nat_lt q p.first ≡ t → is_some (cond t None (option_and_then (λ (b : Slab). slice_get b.bytes ((q - p.first) % p.slab)) (at (slab_of p q) s.opens))) ≡ true → HasByte p s q) [
      | true ↦ λ is h. absurd (true≢false (sym h))
      | false ↦ λ is h'. of_open (at (slab_of p q) s.opens) refl is h'
    ] refl e
  where
    of_class : (own : Bool) (b : Slab) → has_bytes p ≡ own → length b.bytes ≡ bytes_of_slab p → is_some (slice_get b.bytes ((q - p.first) % p.slab)) ≡ true → has_bytes p ≡ true
    of_class true b own len some = own
    of_class false b own len some = absurd (true≢false (sym some ∙ get_none b.bytes ((q - p.first) % p.slab) (len ∙ ap (λ (t : Bool). cond t p.slab 0) own)))

    of_open : (o : Option Slab) → at (slab_of p q) s.opens ≡ o → nat_lt q p.first ≡ false → is_some (option_and_then (λ (b : Slab). slice_get b.bytes ((q - p.first) % p.slab)) o) ≡ true → HasByte p s q
    of_open None is from some = absurd (true≢false (sym some))
    of_open (Some b) is from some = record { own = of_class (has_bytes p) b refl (h.whole (slab_of p q) b is) some; from = above q p.first from; open_slab = ap (λ (o : Option Slab). is_some o) is }

pub all_open : (p : Shape) (s : State) (a len i : ℕ) → first_trap p s a len ≡ None → i < len → is_some (byte_at p s (a + i)) ≡ true
all_open p s a zero i none lt = absurd (omega arith)
all_open p s a (suc len) i none lt =
    elim (is_some (byte_at p s a)) as (λ t. is_some (byte_at p s a) ≡ t → cond t (first_trap p s (a + 1) len) (Some a) ≡ None → is_some (byte_at p s (a + i)) ≡ true) [
      | true ↦ λ e h. ⊎_elim
          (λ z. ap (λ (n : ℕ). is_some (byte_at p s n)) (omega arith) ∙ e)
          (λ ne. ap (λ (n : ℕ). is_some (byte_at p s n)) (omega arith) ∙ all_open p s (a + 1) len (i - 1) h (omega arith))
          (cases_eq i 0)
      | false ↦ λ e h. absurd (none-some a (sym h))
    ] refl none

-- the piece of a range within one slab
pub record IsPiece (p : Shape) (s : State) (q k : ℕ) : Type 0 where
  pub byte : HasByte p s q
  pub offset : ℕ
  pub place : q ≡ slab_at p (slab_of p q) + offset
  pub fits : offset + k ≤ p.slab
  pub some : 0 < k

-- so do all addresses of a range without a trap
pub have_bytes : (p : Shape) (s : State) (runs : PageRuns) (a len : ℕ) → HoldsSlabs p s.opens runs → first_trap p s a len ≡ None → HaveBytes p s a len
have_bytes p s runs a len h none q from to =
    let e : a + (q - a) ≡ q = omega (arith, from) in
    byte_open p s runs q h (ap (λ (n : ℕ). is_some (byte_at p s n)) (sym e) ∙ all_open p s a len (q - a) none (omega (arith, from, to)))

-- a write leaves them
pub still_have : (p : Shape) (s : State) (a q len : ℕ) (w : List ℕ) → HaveBytes p s q len → HaveBytes p (write p a w s) q len
still_have p s a q len w have x from to =
    let b = have x from to in
    record { own = b.own; from = b.from; open_slab = has_overlaid p a w (slab_of p x) s.opens ∙ b.open_slab }

pub piece_here : (p : Shape) (s : State) (q next end : ℕ) → IsShape p → HasByte p s q → q < end → next ≡ min end (slab_at p (slab_of p q) + p.slab) → IsPiece p s q (next - q)
piece_here p s q next end shape b lt ends =
    let start = slab_from p q shape b.from in
    let stop = slab_to p q shape b.from in
    record {
      byte = b;
      offset = q - slab_at p (slab_of p q);
      place = omega (arith, start);
      fits = omega (arith, start, stop, ends);
      some = omega (arith, stop, ends);
    }

pub piece_held : (p : Shape) (s s' : State) (runs : PageRuns) (q k : ℕ) → IsPiece p s q k → is_open s' (slab_of p q) ≡ true → HoldsSlabs p s'.opens runs → IsHeld runs q k
piece_held p s s' runs q k piece on h = held_in s' (slab_of p q) piece.offset k piece.byte.own on piece.place piece.fits piece.some h

-- ---- reading
pub read_append : (p : Shape) (s : State) (a j k : ℕ) → bytes_read p s a (j + k) ≡ bytes_read p s a j ++ bytes_read p s (a + j) k
read_append p s a zero k = ap (λ (n : ℕ). bytes_read p s a n) (omega arith) ∙ ap (λ (q : ℕ). bytes_read p s q k) (omega arith)
read_append p s a (suc j) k =
    let e : suc j + k ≡ suc (j + k) = omega arith in
    let e' : a + 1 + j ≡ a + suc j = omega arith in
    ap (λ (n : ℕ). bytes_read p s a n) e
    ∙ ap (λ (l : List ℕ). unwrap_or (byte_at p s a) 0 ∷ l) (read_append p s (a + 1) j k ∙ ap (λ (q : ℕ). bytes_read p s (a + 1) j ++ bytes_read p s q k) e')

drop_next : (bs : List ℕ) (r : ℕ) (x : ℕ) → slice_get bs r ≡ Some x → drop r bs ≡ x ∷ drop (suc r) bs
drop_next [] r x e = absurd (none-some x e)
drop_next (b ∷ bs) zero x e = ap (λ (y : ℕ). y ∷ bs) (same_Some b x e)
drop_next (b ∷ bs) (suc r) x e = drop_next bs r x e

-- within a slab the bytes read are those that stand there
read_within : (p : Shape) (s : State) (n r a k : ℕ) {b : Slab} → a ≡ slab_at p n + r → r + k ≤ p.slab → length b.bytes ≡ p.slab → at n s.opens ≡ Some b → bytes_read p s a k ≡ take k (drop r b.bytes)
read_within p s n r a zero {b = b} is fits len on = refl
read_within p s n r a (suc k) {b = b} is fits len on =
    let lt : r < p.slab = omega arith in
    let g = got b.bytes r (omega (arith, len)) in
    ap (λ (o : Option ℕ). unwrap_or o 0 ∷ bytes_read p s (a + 1) k) (byte_in p s n r a b is lt on ∙ g.1)
    ∙ ap (λ (l : List ℕ). g.0 ∷ l) (read_within p s n (suc r) (a + 1) k (omega arith) (omega arith) len on)
    ∙ ap (λ (l : List ℕ). take (suc k) l) (sym (drop_next b.bytes r g.0 g.1))
  where
    got : (bs : List ℕ) (i : ℕ) → i < length bs → (x : ℕ) × (slice_get bs i ≡ Some x)
    got [] i lt = absurd (omega arith)
    got (b ∷ bs) zero lt = (b, refl)
    got (b ∷ bs) (suc i) lt = got bs i (omega arith)

-- one piece more was read
pub piece_read : {p : Shape} {s : State} {runs : PageRuns} (a : ℕ) {q : ℕ} (next : ℕ) {old slice : List ℕ} → HoldsSlabs p s.opens runs → a ≤ q → q ≤ next → IsPiece p s q (next - q) → Reads runs q (next - q) slice → old ≡ bytes_read p s a (q - a) → old ++ slice ≡ bytes_read p s a (next - a)
piece_read {p = p} {s = s} {runs = runs} a {q = q} next {slice = slice} h later le piece reads is =
    let b = opens_some s.opens (slab_of p q) piece.byte.open_slab in
    let len : length b.0.bytes ≡ p.slab = all_bytes p s.opens runs h piece.byte.own (slab_of p q) b.0 b.1 in
    let read : slice ≡ bytes_read p s q (next - q) =
    reads_bytes p s q (next - q) runs slice h reads
    ∙ bytes_in p s (slab_of p q) piece.offset q (next - q) b.0 piece.place (omega (arith, piece.fits, piece.some)) b.1
    ∙ sym (read_within p s (slab_of p q) piece.offset q (next - q) piece.place piece.fits len b.1) in
    let e : a + (q - a) ≡ q = omega arith in
    let e' : (q - a) + (next - q) ≡ next - a = omega arith in
    ap (λ (l : List ℕ). l ++ slice) is ∙ ap (λ (l : List ℕ). bytes_read p s a (q - a) ++ l) (read ∙ ap (λ (n : ℕ). bytes_read p s n (next - q)) (sym e))
    ∙ sym (read_append p s a (q - a) (next - q)) ∙ ap (λ (n : ℕ). bytes_read p s a n) e'

-- ---- writing
slabs_two : (p : Shape) (a : ℕ) (w v : List ℕ) (m : List (ℕ × Slab)) → overlaid_slabs p (a + length w) v (overlaid_slabs p a w m) ≡ overlaid_slabs p a (w ++ v) m
slabs_two p a w v [] = refl
slabs_two p a w v (e ∷ m) =
    ap (λ (l : List ℕ). (e.0, slab_with l e.1.canary) ∷ overlaid_slabs p (a + length w) v (overlaid_slabs p a w m)) (overlaid_two a w v (slab_at p e.0) e.1.bytes)
    ∙ ap (λ (l : List (ℕ × Slab)). (e.0, slab_with (overlaid a (w ++ v) (slab_at p e.0) e.1.bytes) e.1.canary) ∷ l) (slabs_two p a w v m)
  where
    slab_with : List ℕ → ℕ → Slab
    slab_with l k = record { bytes = l; canary = k }

slabs_nil : (p : Shape) (a : ℕ) (m : List (ℕ × Slab)) → overlaid_slabs p a [] m ≡ m
slabs_nil p a [] = refl
slabs_nil p a (e ∷ m) =
    ap (λ (l : List ℕ). (e.0, slab_with l e.1.canary) ∷ overlaid_slabs p a [] m) (overlaid_nil a (slab_at p e.0) e.1.bytes)
    ∙ ap (λ (l : List (ℕ × Slab)). e ∷ l) (slabs_nil p a m)
  where
    slab_with : List ℕ → ℕ → Slab
    slab_with l k = record { bytes = l; canary = k }

pub holds_none : (p : Shape) (a n byte : ℕ) (s : State) (runs : PageRuns) → n ≡ 0 → HoldsSlabs p s.opens runs → HoldsSlabs p (write p a (replicate n byte) s).opens runs
holds_none p a n byte s runs none h =
    subst (λ (m : List (ℕ × Slab)). HoldsSlabs p m runs) (sym (ap (λ (k : ℕ). overlaid_slabs p a (replicate k byte) s.opens) none ∙ slabs_nil p a s.opens)) h

pub holds_nothing : (p : Shape) (a : ℕ) (s : State) (runs : PageRuns) → HoldsSlabs p s.opens runs → HoldsSlabs p (write p a [] s).opens runs
holds_nothing p a s runs h = subst (λ (m : List (ℕ × Slab)). HoldsSlabs p m runs) (sym (slabs_nil p a s.opens)) h

-- bytes are written behind those that were written
pub written_behind : {p : Shape} (s : State) {runs : PageRuns} (a q : ℕ) (w v all : List ℕ) → a + length w ≡ q → w ++ v ≡ all
    → HoldsSlabs p (write p q v (write p a w s)).opens runs → HoldsSlabs p (write p a all s).opens runs
written_behind {p = p} s {runs = runs} a q w v all at_q is h =
    subst (λ (l : List ℕ). HoldsSlabs p (overlaid_slabs p a l s.opens) runs) is
    (subst (λ (m : List (ℕ × Slab)). HoldsSlabs p m runs) (slabs_two p a w v s.opens)
    (subst (λ (x : ℕ). HoldsSlabs p (overlaid_slabs p x v (overlaid_slabs p a w s.opens)) runs) (sym at_q) h))

-- one piece more was written
pub piece_written : {p : Shape} {s : State} {runs : PageRuns} (runs' : PageRuns) (a : ℕ) {q : ℕ} (next byte : ℕ) → IsShape p → a ≤ q → q ≤ next → IsPiece p s q (next - q)
    → HoldsSlabs p (write p a (replicate (q - a) byte) s).opens runs
    → (IsHeld runs q (next - q) → Writes runs q (next - q) (replicate (next - q) byte) runs')
    → HoldsSlabs p (write p a (replicate (next - a) byte) s).opens runs'
piece_written {p = p} {s = s} {runs = runs} runs' a {q = q} next byte shape later le piece h wrote =
    let w : List ℕ = replicate (q - a) byte in
    let v : List ℕ = replicate (next - q) byte in
    let front : length w ≡ q - a = length-replicate (q - a) byte in
    let on : is_open (write p a w s) (slab_of p q) ≡ true = has_overlaid p a w (slab_of p q) s.opens ∙ piece.byte.open_slab in
    let all : w ++ v ≡ replicate (next - a) byte = replicate-append-replicate (q - a) (next - q) byte ∙ ap (λ (n : ℕ). replicate n byte) (omega (arith, later, le)) in
    written_behind s a q w v (replicate (next - a) byte) (omega (arith, front, later)) all
    (holds_write q (next - q) v runs' shape (length-replicate (next - q) byte) h (wrote (piece_held p s (write p a w s) runs q (next - q) piece on h)))
