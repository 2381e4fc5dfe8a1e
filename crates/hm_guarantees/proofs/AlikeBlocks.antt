-- Large blocks that differ in their bytes alone, and what is allowed over them.
use Rattle.std.proofs.Common.{◌≡◌, ⊎_elim, ℕ, suc, ◌+◌, ◌-◌, ◌==◌, true, false, cond, not, ◌&&◌, nat_lt, nat_le, List, [], ◌∷◌, length, take, Option, Some, None, is_some, unwrap_or, sym, ◌∙◌, ap, subst, refl, arith}
use Rattle.std.specs.Prelude.{slice_get, option_map, ⊤}
use Rattle.std.specs.Bool.{MatchBool}
use Rattle.std.proofs.lemmas.Bool.{cases_lt}
use Rattle.std.proofs.lemmas.Option.{slice_get_past, slice_get-get_or}
use Rattle.hm_quarantine.specs.Delay.{delay, slots_of}
use Rattle.hm_quarantine.specs.LookingBack.{Free}
use Rattle.hm_model.specs.declared.entry.Entry.{Entry}
use Rattle.hm_model.specs.declared.entry.Call.{Call}
use Rattle.hm_model.specs.declared.entry.Call.TheVariants.{Allot, GiveBack, Measure, Fetch, Fill}
use Rattle.hm_model.specs.declared.entry.Reply.{Reply}
use Rattle.hm_model.specs.declared.entry.Reply.TheVariants.{Given, NoSpace, PagesFailed, Freed, WrongSize, NotLive, Usable, Bytes, Filled, Trap}
use Rattle.hm_model.specs.Maps.{at, has, among, removed, keys}
use Rattle.hm_model.specs.Ranges as ranges
use Rattle.hm_model.specs.Runs.{expand}
use Rattle.hm_model.proofs.Lists.{has_keys}
use Rattle.hm_model.proofs.Overlaid.{length_overlaid}
use Rattle.hm_sizes.specs.Sizes.{block_size}
use Rattle.hm_sizes.specs.declared.config.Config.{Config}
use Rattle.hm_large_rules.specs.State.{Block, Blocks, size_for, spans, covered, State, array_length, ring_length, taken}
use Rattle.hm_large_rules.specs.Bytes.{byte_at, first_trap, bytes_read, overlaid_blocks}
use Rattle.hm_large_rules.specs.Steps.{marked, takes_back, releases, free_at}
use Rattle.hm_large_rules.specs.Rules.{Terms, Allows, AllowsFreed, IsCandidate, IsLeastCandidate, Releases, ReleasesFor, wrong_size}

pub record AlikeBlock (e f : ℕ × Block) : Type 0 where
  pub key : e.0 ≡ f.0
  pub size : e.1.size ≡ f.1.size
  pub guard : e.1.guard ≡ f.1.guard
  pub count : length e.1.bytes ≡ length f.1.bytes

abbrev pub AreAlikeBlocks : Blocks → Blocks → Type 0
AreAlikeBlocks [] [] = ⊤
AreAlikeBlocks [] (f ∷ l) = ⊥
AreAlikeBlocks (e ∷ m) [] = ⊥
AreAlikeBlocks (e ∷ m) (f ∷ l) = AlikeBlock e f × AreAlikeBlocks m l

pub own_block : (e : ℕ × Block) → AlikeBlock e e
own_block e = record { key = refl; size = refl; guard = refl; count = refl }

pub own_blocks : (m : Blocks) → AreAlikeBlocks m m
own_blocks [] = tt
own_blocks (e ∷ m) = (own_block e, own_blocks m)

pub back_blocks : (m l : Blocks) → AreAlikeBlocks m l → AreAlikeBlocks l m
back_blocks [] [] h = tt
back_blocks [] (f ∷ l) h = absurd h
back_blocks (e ∷ m) [] h = absurd h
back_blocks (e ∷ m) (f ∷ l) h = (record { key = sym h.0.key; size = sym h.0.size; guard = sym h.0.guard; count = sym h.0.count }, back_blocks m l h.1)

pub blocks_keys : (m l : Blocks) → AreAlikeBlocks m l → keys m ≡ keys l
blocks_keys [] [] h = refl
blocks_keys [] (f ∷ l) h = absurd h
blocks_keys (e ∷ m) [] h = absurd h
blocks_keys (e ∷ m) (f ∷ l) h = λ i. h.0.key i ∷ blocks_keys m l h.1 i

pub blocks_has : (k : ℕ) (m l : Blocks) → AreAlikeBlocks m l → has k m ≡ has k l
blocks_has k m l h = has_keys k m ∙ ap (λ (x : List ℕ). among k x) (blocks_keys m l h) ∙ sym (has_keys k l)

pub blocks_length : (m l : Blocks) → AreAlikeBlocks m l → length m ≡ length l
blocks_length [] [] h = refl
blocks_length [] (f ∷ l) h = absurd h
blocks_length (e ∷ m) [] h = absurd h
blocks_length (e ∷ m) (f ∷ l) h = ap (λ (n : ℕ). suc n) (blocks_length m l h.1)

-- the blocks at a key, if there is one
abbrev pub AlikeFound : Option Block → Option Block → Type 0
AlikeFound None None = ⊤
AlikeFound None (Some y) = ⊥
AlikeFound (Some x) None = ⊥
AlikeFound (Some x) (Some y) = (x.size ≡ y.size) × (x.guard ≡ y.guard) × (length x.bytes ≡ length y.bytes)

pub blocks_at : (k : ℕ) (m l : Blocks) → AreAlikeBlocks m l → AlikeFound (at k m) (at k l)
blocks_at k [] [] h = tt
blocks_at k [] (f ∷ l) h = absurd h
blocks_at k (e ∷ m) [] h = absurd h
blocks_at k (e ∷ m) (f ∷ l) h =
    subst (λ (n : ℕ). AlikeFound (at k (e ∷ m)) (cond (n == k) (Some f.1) (at k l))) h.0.key
    (elim (e.0 == k) as (λ t. AlikeFound (cond t (Some e.1) (at k m)) (cond t (Some f.1) (at k l))) [ true ↦ (h.0.size, h.0.guard, h.0.count) | false ↦ blocks_at k m l h.1 ])

pub blocks_removed : (k : ℕ) (m l : Blocks) → AreAlikeBlocks m l → AreAlikeBlocks (removed k m) (removed k l)
blocks_removed k [] [] h = tt
blocks_removed k [] (f ∷ l) h = absurd h
blocks_removed k (e ∷ m) [] h = absurd h
blocks_removed k (e ∷ m) (f ∷ l) h =
    let rest = blocks_removed k m l h.1 in
    subst (λ (n : ℕ). AreAlikeBlocks (removed k (e ∷ m)) (cond (not (n == k)) (f ∷ removed k l) (removed k l))) h.0.key
    (elim (e.0 == k) as (λ t. AreAlikeBlocks (cond (not t) (e ∷ removed k m) (removed k m)) (cond (not t) (f ∷ removed k l) (removed k l))) [ true ↦ rest | false ↦ (h.0, rest) ])

pub blocks_written : (a b : ℕ) (w v : List ℕ) (m l : Blocks) → AreAlikeBlocks m l → AreAlikeBlocks (overlaid_blocks a w m) (overlaid_blocks b v l)
blocks_written a b w v [] [] h = tt
blocks_written a b w v [] (f ∷ l) h = absurd h
blocks_written a b w v (e ∷ m) [] h = absurd h
blocks_written a b w v (e ∷ m) (f ∷ l) h = (
  record { key = h.0.key; size = h.0.size; guard = h.0.guard; count = length_overlaid a w e.0 e.1.bytes ∙ h.0.count ∙ sym (length_overlaid b v f.0 f.1.bytes) },
  blocks_written a b w v m l h.1,
)

pub blocks_over : (a : ℕ) (w : List ℕ) (m : Blocks) → AreAlikeBlocks m (overlaid_blocks a w m)
blocks_over a w [] = tt
blocks_over a w (e ∷ m) = (record { key = refl; size = refl; guard = refl; count = sym (length_overlaid a w e.0 e.1.bytes) }, blocks_over a w m)

pub blocks_marked : (a : ℕ) (m l : Blocks) → AreAlikeBlocks m l → AreAlikeBlocks (marked a m) (marked a l)
blocks_marked a [] [] h = tt
blocks_marked a [] (f ∷ l) h = absurd h
blocks_marked a (e ∷ m) [] h = absurd h
blocks_marked a (e ∷ m) (f ∷ l) h = (record { key = h.0.key; size = h.0.size; guard = h.0.guard; count = h.0.count }, blocks_marked a m l h.1)

-- ---- where they lie
covered_same : (q : ℕ) (m l : Blocks) → AreAlikeBlocks m l → covered q m ≡ covered q l
covered_same q [] [] h = refl
covered_same q [] (f ∷ l) h = absurd h
covered_same q (e ∷ m) [] h = absurd h
covered_same q (e ∷ m) (f ∷ l) h = λ i. cond (spans (h.0.key i) (h.0.size i) (h.0.guard i) q) 1 0 + covered_same q m l h.1 i

some_get : (b c : List ℕ) (r : ℕ) → length b ≡ length c → is_some (slice_get b r) ≡ is_some (slice_get c r)
some_get b c r e =
    ⊎_elim
    (λ lt. ap (λ (o : Option ℕ). is_some o) (slice_get-get_or b r 0 lt) ∙ sym (ap (λ (o : Option ℕ). is_some o) (slice_get-get_or c r 0 (omega (arith, lt, e)))))
    (λ ge. ap (λ (o : Option ℕ). is_some o) (slice_get_past b r ge) ∙ sym (ap (λ (o : Option ℕ). is_some o) (slice_get_past c r (omega (arith, ge, e)))))
    (cases_lt r (length b))

some_same : (q : ℕ) (m l : Blocks) → AreAlikeBlocks m l → is_some (byte_at m q) ≡ is_some (byte_at l q)
some_same q [] [] h = refl
some_same q [] (f ∷ l) h = absurd h
some_same q (e ∷ m) [] h = absurd h
some_same q (e ∷ m) (f ∷ l) h =
    (elim (nat_le e.0 q && nat_lt q (e.0 + length e.1.bytes)) as (λ t. is_some (cond t (slice_get e.1.bytes (q - e.0)) (byte_at m q)) ≡ is_some (cond t (slice_get f.1.bytes (q - e.0)) (byte_at l q))) [
      | true ↦ some_get e.1.bytes f.1.bytes (q - e.0) h.0.count
      | false ↦ some_same q m l h.1
    ])
    ∙ (λ i. is_some (cond (nat_le (h.0.key i) q && nat_lt q (h.0.key i + h.0.count i)) (slice_get f.1.bytes (q - h.0.key i)) (byte_at l q)))

pub trap_same : (m l : Blocks) (a len : ℕ) → AreAlikeBlocks m l → first_trap m a len ≡ first_trap l a len
trap_same m l a len h = λ j. ranges.first_failing (λ q. some_same q m l h j) a len

-- ---- states
pub record AlikeStates (s s' : State) : Type 0 where
  pub live : AreAlikeBlocks s.live s'.live
  pub quarantined : AreAlikeBlocks s.quarantined s'.quarantined
  pub frees : s.frees ≡ s'.frees

pub back_states : (s s' : State) → AlikeStates s s' → AlikeStates s' s
back_states s s' h = record { live = back_blocks s.live s'.live h.live; quarantined = back_blocks s.quarantined s'.quarantined h.quarantined; frees = sym h.frees }

taken_same : (s s' : State) (q : ℕ) → AlikeStates s s' → taken s q ≡ taken s' q
taken_same s s' q h = λ i. covered_same q s.live s'.live h.live i + covered_same q s.quarantined s'.quarantined h.quarantined i

candidate : (c : Config) (s s' : State) (align size guard a : ℕ) → AlikeStates s s' → IsCandidate c s align size guard a → IsCandidate c s' align size guard a
candidate c s s' align size guard a h x = record { aligned = x.aligned; from = x.from; to = x.to; free = λ q in_span. sym (taken_same s s' q h) ∙ x.free q in_span }

least : (c : Config) (s s' : State) (align size guard a : ℕ) → AlikeStates s s' → IsLeastCandidate c s align size guard a → IsLeastCandidate c s' align size guard a
least c s s' align size guard a h x = record {
  fits = candidate c s s' align size guard a h x.fits;
  least = λ other k. x.least other (candidate c s' s align size guard other (back_states s s' h) k);
}

wrong_by : (o q : Option Block) (stated : Option ℕ) → AlikeFound o q → wrong_size o stated ≡ wrong_size q stated
wrong_by None None stated h = refl
wrong_by None (Some y) stated h = absurd h
wrong_by (Some x) None stated h = absurd h
wrong_by (Some x) (Some y) None h = refl
wrong_by (Some x) (Some y) (Some size) h = λ i. cond (block_size size == h.0 i) None (Some (h.0 i, block_size size))

size_by : (o q : Option Block) → AlikeFound o q → option_map (λ (b : Block). b.size) o ≡ option_map (λ (b : Block). b.size) q
size_by None None h = refl
size_by None (Some y) h = absurd h
size_by (Some x) None h = absurd h
size_by (Some x) (Some y) h = ap (λ (n : ℕ). Some n) h.0

-- ---- a free
abbrev kept_back : ℕ → ℕ → Block → State → State
kept_back a word x s = record s { live = removed a s.live; quarantined = (a, x) ∷ s.quarantined; frees = free_at a word ∷ s.frees }

abbrev gone_back : ℕ → State → State
gone_back a s = record s { live = removed a s.live }

pub back_alike : (a word : ℕ) (o q : Option Block) (s s' : State) → AlikeFound o q → AlikeStates s s' → AlikeStates (takes_back a word o s) (takes_back a word q s')
back_alike a word None None s s' f h = h
back_alike a word None (Some y) s s' f h = absurd f
back_alike a word (Some x) None s s' f h = absurd f
back_alike a word (Some x) (Some y) s s' f h =
    subst (λ (n : ℕ). AlikeStates (takes_back a word (Some x) s) (cond (nat_lt n 33554432) (kept_back a word y s') (gone_back a s'))) f.0
    (elim (nat_lt x.size 33554432) as (λ t. AlikeStates (cond t (kept_back a word x s) (gone_back a s)) (cond t (kept_back a word y s') (gone_back a s'))) [
      | true ↦ record {
        live = blocks_removed a s.live s'.live h.live;
        quarantined = (record { key = refl; size = f.0; guard = f.1; count = f.2 }, h.quarantined);
        frees = ap (λ (l : List Free). free_at a word ∷ l) h.frees;
      }
      | false ↦ record { live = blocks_removed a s.live s'.live h.live; quarantined = h.quarantined; frees = h.frees }
    ])

pub releases_alike : (r : Option ℕ) (s s' : State) → AlikeStates s s' → AlikeStates (releases r s) (releases r s')
releases_alike None s s' h = h
releases_alike (Some b) s s' h = record { live = h.live; quarantined = blocks_removed b s.quarantined s'.quarantined h.quarantined; frees = h.frees }

may_release : (s s' : State) (r : Option ℕ) → AlikeStates s s' → Releases s r → Releases s' r
may_release s s' None h x = omega (arith, x, blocks_length s.quarantined s'.quarantined h.quarantined)
may_release s s' (Some b) h x = (
  sym (blocks_has b s.quarantined s'.quarantined h.quarantined) ∙ x.0,
  ap (λ (l : List Free). among b (take (delay array_length ring_length) (slots_of l))) (sym h.frees) ∙ x.1,
  omega (arith, x.2, blocks_length (removed b s.quarantined) (removed b s'.quarantined) (blocks_removed b s.quarantined s'.quarantined h.quarantined)),
)

releases_by : (o q : Option Block) (s s' : State) (r : Option ℕ) → AlikeFound o q → AlikeStates s s' → ReleasesFor o s r → ReleasesFor q s' r
releases_by None q s s' r f h x = absurd x
releases_by (Some a) None s s' r f h x = absurd f
releases_by (Some a) (Some b) s s' r f h x =
    subst (λ (n : ℕ). MatchBool (nat_lt n 33554432) (Releases s' r) (r ≡ None)) f.0
    ((elim (nat_lt a.size 33554432) as (λ t. MatchBool t (Releases s r) (r ≡ None) → MatchBool t (Releases s' r) (r ≡ None)) [ true ↦ λ y. may_release s s' r h y | false ↦ λ y. y ]) x)

freed_same : (s s' : State) (word : ℕ) (e : Entry) (a : ℕ) (stated : Option ℕ) → AlikeStates s s' → AllowsFreed s word e.choices a stated → AllowsFreed s' word e.choices a stated
freed_same s s' word e a stated h x =
    let found = blocks_at a s.live s'.live h.live in
    record {
      block = sym (blocks_has a s.live s'.live h.live) ∙ x.block;
      size = sym (wrong_by (at a s.live) (at a s'.live) stated found) ∙ x.size;
      release = releases_by (at a s.live) (at a s'.live) (takes_back a word (at a s.live) s) (takes_back a word (at a s'.live) s') e.choices.released found
          (back_alike a word (at a s.live) (at a s'.live) s s' found h) x.release;
      choices = x.choices;
    }

-- ---- what is allowed, but for reading
-- the bytes that a read finds are the same
abbrev pub ReadsAlike : State → State → Call → Type 0
ReadsAlike s s' (Fetch a len) = bytes_read s.live a len ≡ bytes_read s'.live a len
ReadsAlike s s' call = ⊤

pub allows_same : (t : Terms) (s s' : State) (e : Entry) (call : Call) (reply : Reply) → AlikeStates s s' → ReadsAlike s s' call → Allows t s e call reply → Allows t s' e call reply
allows_same t s s' e (Allot asked align) (Given a usable) h reads x = ((least t.config s s' align (size_for asked) (unwrap_or e.choices.guard 0) a h x.0.0, x.0.1), x.1)
allows_same t s s' e (Allot asked align) NoSpace h reads x = (λ a k. x.0 a (candidate t.config s' s align (size_for asked) (unwrap_or e.choices.guard 0) a (back_states s s' h) k), x.1)
allows_same t s s' e (Allot asked align) PagesFailed h reads x =
    ((((x.0.0).0, candidate t.config s s' align (size_for asked) (unwrap_or e.choices.guard 0) (x.0.0).0 h (x.0.0).1), x.0.1), x.1)
allows_same t s s' e (GiveBack a stated) NotLive h reads x = (sym (blocks_has a s.live s'.live h.live) ∙ x.0, x.1)
allows_same t s s' e (GiveBack a stated) (WrongSize block other) h reads x = (sym (wrong_by (at a s.live) (at a s'.live) stated (blocks_at a s.live s'.live h.live)) ∙ x.0, x.1)
allows_same t s s' e (GiveBack a stated) PagesFailed h reads x =
    (sym (blocks_has a s.live s'.live h.live) ∙ x.0, sym (wrong_by (at a s.live) (at a s'.live) stated (blocks_at a s.live s'.live h.live)) ∙ x.1, x.2, x.3)
allows_same t s s' e (GiveBack a stated) Freed h reads x = freed_same s s' e.draws.w0 e a stated h x
allows_same t s s' e (Measure a) NotLive h reads x = (sym (blocks_has a s.live s'.live h.live) ∙ x.0, x.1)
allows_same t s s' e (Measure a) (Usable size) h reads x = (sym (size_by (at a s.live) (at a s'.live) (blocks_at a s.live s'.live h.live)) ∙ x.0, x.1)
allows_same t s s' e (Fetch a len) (Bytes runs) h reads x = (x.0, λ told. (sym (trap_same s.live s'.live a len h.live) ∙ (x.1 told).0, (x.1 told).1 ∙ reads), x.2)
allows_same t s s' e (Fetch a len) (Trap q) h reads x = (λ told. sym (trap_same s.live s'.live a len h.live) ∙ x.0 told, x.1)
allows_same t s s' e (Fill a runs) Filled h reads x = (λ told. sym (trap_same s.live s'.live a (length (expand runs)) h.live) ∙ x.0 told, x.1)
allows_same t s s' e (Fill a runs) (Trap q) h reads x = (λ told. sym (trap_same s.live s'.live a (length (expand runs)) h.live) ∙ x.0 told, x.1)
allows_same t s s' e call reply h reads x = absurd x
