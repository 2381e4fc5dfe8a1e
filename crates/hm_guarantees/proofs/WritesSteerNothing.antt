-- What is written anywhere steers nothing until it is found: the rules hold as well over slabs without bytes.
use Rattle.std.proofs.Common.{◌≡◌, inl, ⊎_elim, ℕ, zero, suc, ◌+◌, ◌-◌, ◌*◌, ◌<◌, ◌≤◌, ◌==◌, Bool, true, false, cond, ◌&&◌, ◌||◌, not, List, [], ◌∷◌, ◌++◌, map, length, take, drop, find, Option, Some, None, is_some, unwrap_or, sym, ◌∙◌, ap, subst, refl, arith, true≢false, replicate}
use Rattle.std.specs.Prelude.{slice_get, option_map, IsTrue, ⊤}
use Rattle.std.specs.List.{range_with_len}
use Rattle.std.specs.Option.{option_map_or}
use Rattle.std.specs.Int.{to_le_bytes, from_le_bytes}
use mir.Syntax.{w64}
use Rattle.std.proofs.lemmas.List.{length-take, length-drop, length-replicate}
use Rattle.hm_base.specs.Lists.{zeros}
use Rattle.hm_model.specs.declared.entry.Entry.{Entry}
use Rattle.hm_model.specs.declared.entry.Call.{Call}
use Rattle.hm_model.specs.declared.entry.Call.TheVariants.{Allot, GiveBack, Measure, Fetch, Fill}
use Rattle.hm_model.specs.declared.entry.Reply.{Reply}
use Rattle.hm_model.specs.declared.entry.Reply.TheVariants.{Given, Overwritten, Exhausted, PagesFailed, Freed, NoSlot, Unused, DoubleFree, WrongSize, Canary, Usable, Bytes, Filled, Trap}
use Rattle.hm_model.specs.declared.entry.Choices.{Choices}
use Rattle.hm_model.specs.Machine.{Legal}
use Rattle.hm_model.specs.Maps.{at, removed, keys, without}
use Rattle.hm_model.specs.Runs.{expand}
use Rattle.hm_model.specs.Replies.{is_page_fault, HasRuns}
use Rattle.hm_model.proofs.Lists.{keys_removed}
use Rattle.hm_sizes.specs.declared.shape.Shape.{Shape}
use Rattle.hm_sizes.specs.Shapes.{IsShape, has_bytes, usable, place, slab_at, slab_of, slot_of}
use Rattle.hm_sizes.proofs.PlaceTest.{slot_row}
use Rattle.hm_class_rules.specs.State.{State, Slab}
use Rattle.hm_class_rules.specs.Bytes.{bytes_from, usable_bytes, first_nonzero, kept_canary, found_canary, overlaid_slabs}
use Rattle.hm_class_rules.specs.Steps.{new_slab, opened, gives, takes_back, releases, unparks, retires, purges, changed, step}
use Rattle.hm_class_rules.specs.Rules.{Terms, Allows, AllowsFreed, Allowed, Empties, Picks, surplus, wrong_canary, reuse_finds}
use Rattle.hm_class_rules.specs.Draws.{Event, Picked, Returned, Undrawn, event_of, event, start_slot}
use Rattle.hm_class_rules.specs.Drawn.{first_free}
use Rattle.hm_class_rules.specs.Stepped.{Cells, first_cells, next, IsSteppedEntry, IsSteppedEvent}
use Rattle.hm_class_rules.proofs.Alike.{drawn_is_stepped}
use Rattle.hm_class_rules.proofs.Legal.{picked_place}
use Rattle.hm_class_rules.proofs.SameEntry.{agree}
use Rattle.hm_class_rules.proofs.SameParts.{Stands}
use Rattle.hm_class_rules.proofs.Sound.{keys_overlaid}
use Rattle.hm_class_rules.proofs.Zeroed.{get_take, get_drop}
use Rattle.hm_guarantees.specs.FillsSteerNothing.{outcome_of}
use Rattle.hm_guarantees.specs.WritesSteerNothing.{AskWritten, AllAskWritten, FindsNone, AllFindNone, WritesSteerNothing}
use Rattle.hm_guarantees.proofs.AlikeSlabs.{AlikeSlabs, alike_keys, alike_write, alike_writes}
use Rattle.hm_guarantees.proofs.Alike.{at_slabs, open_same, free_same, none_serves, source_same, surplus_same, opened_slabs, opened_same, opened_alike, releases_same, releases_opens, may_release, may_empty, kept_same}
use Rattle.hm_guarantees.proofs.AlikeSteps.{retired_slabs, purged_slabs, unparks_same, retires_same, purges_same, unparks_opens, retires_alike, purges_alike}
use Rattle.hm_guarantees.proofs.FillsSteerNothing.{at_cells, Knows, knows, SameOutcome, from_agree, fetches, fills, unread_changed, unread_event, is_filled, filled_unread, cells_alike}
use Rattle.hm_guarantees.proofs.FoundWrites.{none_found}

-- any byte may differ
abbrev Any : ℕ → Type 0
Any q = ⊤

-- the call reads no bytes and writes none
abbrev IsPlain : Call → Type 0
IsPlain (Fetch a len) = ⊥
IsPlain (Fill a runs) = ⊥
IsPlain call = ⊤

-- ---- slabs without bytes
abbrev bare : List (ℕ × Slab) → List (ℕ × Slab)
bare [] = []
bare (e ∷ m) = (e.0, record { bytes = []; canary = 0 }) ∷ bare m

bare_keys : (m : List (ℕ × Slab)) → keys m ≡ keys (bare m)
bare_keys [] = refl
bare_keys (e ∷ m) = ap (λ (l : List ℕ). e.0 ∷ l) (bare_keys m)

bare_same : (p : Shape) (m l : List (ℕ × Slab)) → AlikeSlabs p Any m l → bare m ≡ bare l
bare_same p [] [] h = refl
bare_same p [] (f ∷ l) h = absurd h
bare_same p (e ∷ m) [] h = absurd h
bare_same p (e ∷ m) (f ∷ l) h = λ i. (h.0.number i, record { bytes = []; canary = 0 }) ∷ bare_same p m l h.1 i

abbrev AreBare : List (ℕ × Slab) → Type 0
AreBare [] = ⊤
AreBare (e ∷ m) = (e.1.bytes ≡ []) × (e.1.canary ≡ 0) × AreBare m

are_bare : (m : List (ℕ × Slab)) → AreBare (bare m)
are_bare [] = tt
are_bare (e ∷ m) = (refl, refl, are_bare m)

bare_removed : (k : ℕ) (m : List (ℕ × Slab)) → AreBare m → AreBare (removed k m)
bare_removed k [] h = tt
bare_removed k (e ∷ m) h = elim (e.0 == k) as (λ t. AreBare (cond (not t) (e ∷ removed k m) (removed k m))) [ true ↦ bare_removed k m h.2 | false ↦ (h.0, h.1, bare_removed k m h.2) ]

no_bytes_in : (n : ℕ) (m : List (ℕ × Slab)) → AreBare m → option_map_or (λ (b : Slab). b.bytes) (at n m) [] ≡ []
no_bytes_in n [] h = refl
no_bytes_in n (e ∷ m) h = elim (e.0 == n) as (λ t. option_map_or (λ (b : Slab). b.bytes) (cond t (Some e.1) (at n m)) [] ≡ []) [ true ↦ h.0 | false ↦ no_bytes_in n m h.2 ]

no_canary_in : (n : ℕ) (m : List (ℕ × Slab)) → AreBare m → option_map_or (λ (b : Slab). b.canary) (at n m) 0 ≡ 0
no_canary_in n [] h = refl
no_canary_in n (e ∷ m) h = elim (e.0 == n) as (λ t. option_map_or (λ (b : Slab). b.canary) (cond t (Some e.1) (at n m)) 0 ≡ 0) [ true ↦ h.1 | false ↦ no_canary_in n m h.2 ]

-- ---- nothing is found there
no_drop : (k : ℕ) → drop {A = ℕ} k [] ≡ []
no_drop zero = refl
no_drop (suc k) = refl

no_take : (k : ℕ) → take {A = ℕ} k [] ≡ []
no_take zero = refl
no_take (suc k) = refl

zero_in : (u k : ℕ) → k < u → slice_get {X = ℕ} (replicate u 0) k ≡ Some 0
zero_in zero k lt = absurd (omega (arith, lt))
zero_in (suc u) zero lt = refl
zero_in (suc u) (suc k) lt = zero_in u k (omega (arith, lt))

zeros_found : (u o len : ℕ) → first_nonzero (take u (drop o (zeros len))) ≡ None
zeros_found u o len =
    none_found (take u (drop o (zeros len))) (λ j lt.
    (let below : o + j < len = omega (arith, lt, length-take u (drop o (zeros len)), length-drop o (zeros len), length-replicate {A = ℕ} len 0) in
    let short : j < u = omega (arith, lt, length-take u (drop o (zeros len))) in
    get_take u j (drop o (zeros len)) short ∙ get_drop o j (zeros len) ∙ zero_in len (o + j) below))

none_of : (u o : ℕ) (bs : List ℕ) → bs ≡ [] → first_nonzero (take u (drop o bs)) ≡ None
none_of u o bs is = ap (λ (l : List ℕ). first_nonzero (take u (drop o l))) is ∙ ap (λ (l : List ℕ). first_nonzero (take u l)) (no_drop o) ∙ ap (λ (l : List ℕ). first_nonzero l) (no_take u)

reuse_none : (c : Terms) (s : State) (m : List (ℕ × Slab)) (f : ℕ) (o canary : Option ℕ) (a : ℕ) → AreBare m → reuse_finds c.config c.shape (opened c.shape o canary (at_slabs m f s)) a ≡ None
reuse_none t s m f o canary a bare_m = elim t.config.check_reuse as (λ b. cond b (first_nonzero (usable_bytes p (opened p o canary (at_slabs m f s)) a)) None ≡ None) [ true ↦ by o | false ↦ refl ]
  where
    p : Shape
    p = t.shape

    by : (o : Option ℕ) → first_nonzero (usable_bytes t.shape (opened t.shape o canary (at_slabs m f s)) a) ≡ None
    by None = none_of (usable t.shape) (a - slab_at t.shape (slab_of t.shape a)) _ (no_bytes_in (slab_of t.shape a) m bare_m)
    by (Some k) = here (k == slab_of t.shape a)
      where
        here : (b : Bool) → first_nonzero (take (usable t.shape) (drop (a - slab_at t.shape (slab_of t.shape a))
            (option_map_or (λ (b : Slab). b.bytes) (cond b (Some (new_slab t.shape (unwrap_or canary 0))) (at (slab_of t.shape a) (removed k m))) []))) ≡ None
        here true = elim (has_bytes t.shape) as (λ b. first_nonzero (take (usable t.shape) (drop (a - slab_at t.shape (slab_of t.shape a)) (cond b (zeros t.shape.slab) []))) ≡ None) [
          | true ↦ zeros_found (usable t.shape) (a - slab_at t.shape (slab_of t.shape a)) t.shape.slab
          | false ↦ none_of (usable t.shape) (a - slab_at t.shape (slab_of t.shape a)) [] refl
        ]
        here false = none_of (usable t.shape) (a - slab_at t.shape (slab_of t.shape a)) _ (no_bytes_in (slab_of t.shape a) (removed k m) (bare_removed k m bare_m))

wrong_none : (p : Shape) (s : State) (m : List (ℕ × Slab)) (f a : ℕ) → AreBare m → wrong_canary p (at_slabs m f s) a ≡ None
wrong_none p s m f a bare_m =
    let q : ℕ = a + usable p in
    let from : bytes_from p (at_slabs m f s) q 8 ≡ [] =
    ap (λ (l : List ℕ). take 8 (drop (q - slab_at p (slab_of p q)) l)) (no_bytes_in (slab_of p q) m bare_m) ∙ ap (λ (l : List ℕ). take 8 l) (no_drop (q - slab_at p (slab_of p q))) in
    let found : found_canary p (at_slabs m f s) a ≡ 0 = ap (λ (l : List ℕ). from_le_bytes w64 l) from in
    let kept : kept_canary p (at_slabs m f s) a ≡ 0 = no_canary_in (slab_of p a) m bare_m in
    (λ i. cond (has_bytes p && not (found i == kept i)) (Some (kept i, found i)) None)
    ∙ (elim (has_bytes p) as (λ b. cond {A = Option (ℕ × ℕ)} (b && not (0 == 0)) (Some (0, 0)) None ≡ None) [ true ↦ refl | false ↦ refl ])

-- ---- by keys alone
opened_keys : (p : Shape) (o canary : Option ℕ) (s : State) (m : List (ℕ × Slab)) → keys s.opens ≡ keys m → keys (opened p o canary s).opens ≡ keys (opened_slabs p o canary m)
opened_keys p None canary s m same = same
opened_keys p (Some n) canary s m same = ap (λ (l : List ℕ). n ∷ l) (keys_removed n s.opens ∙ ap (λ (l : List ℕ). without n l) same ∙ sym (keys_removed n m))

module _ (t : Terms) (s : State) (m : List (ℕ × Slab)) (f : ℕ) (same : keys s.opens ≡ keys m) (bare_m : AreBare m) where
  picks_by : (c : Choices) (a : ℕ) → Picks t.shape s (opened t.shape c.opened c.canary s) c a → Picks t.shape (at_slabs m f s) (opened t.shape c.opened c.canary (at_slabs m f s)) c a
  picks_by c a pick =
      let p : Shape = t.shape in
      let now : State = opened p c.opened c.canary s in
      let m' : List (ℕ × Slab) = opened_slabs p c.opened c.canary m in
      let there : Picks p (at_slabs m f s) (at_slabs m' f now) c a = record {
        place = pick.place;
        source = source_same p s m f same c.opened (slab_of p a) pick.source;
        open_slab = sym (open_same p now m' f (opened_keys p c.opened c.canary s m same) (slab_of p a)) ∙ pick.open_slab;
        free = pick.free;
        canary = pick.canary;
        choices = pick.choices;
      } in
      subst (λ (x : State). Picks p (at_slabs m f s) x c a) (sym (opened_same p c.opened c.canary m f s)) there

  freed_by : (before now : ℕ) (c : Choices) (a : ℕ) (stated : Option ℕ) → AllowsFreed t s before now c a stated → AllowsFreed t (at_slabs m f s) before now c a stated
  freed_by before now c a stated allows =
      let p : Shape = t.shape in
      let s₁ : State = takes_back p a s in
      let m₁ : List (ℕ × Slab) = overlaid_slabs p a (zeros (usable p)) m in
      let s₂ : State = releases c.released s₁ in
      let keys₂ : keys s₂.opens ≡ keys m₁ =
      ap (λ (l : List (ℕ × Slab)). keys l) (releases_opens c.released s₁) ∙ keys_overlaid p a (zeros (usable p)) s.opens ∙ same ∙ sym (keys_overlaid p a (zeros (usable p)) m) in
      let after : Empties t (at_slabs m₁ f s₂) before now c (surplus p (at_slabs m₁ f s₂) c.released) =
      subst (λ (o : Option ℕ). Empties t (at_slabs m₁ f s₂) before now c o) (surplus_same p s₂ m₁ f keys₂ c.released)
      (may_empty t s₂ m₁ f before now c (surplus p s₂ c.released) allows.emptied) in
      record {
        block = record { place = allows.block.place; given = allows.block.given; live = allows.block.live };
        size = allows.size;
        canary = λ told. wrong_none p s m f a bare_m;
        release = may_release p s₁ m₁ f c.released allows.release;
        emptied = subst (λ (x : State). Empties t x before now c (surplus p x c.released)) (sym (releases_same c.released m₁ f s₁)) after;
        choices = allows.choices;
      }

  -- what finds nothing is allowed there as well
  allows_by : (before now : ℕ) (c : Choices) (call : Call) (reply : Reply) → IsPlain call → FindsNone reply
      → Allows t s before now c call reply → Allows t (at_slabs m f s) before now c call reply
  allows_by before now c (Allot asked align) (Given a size) plain none x = (picks_by c a x.0, x.1, λ told. reuse_none t s m f c.opened c.canary a bare_m)
  allows_by before now c (Allot asked align) (Overwritten a at found) plain none x = absurd none
  allows_by before now c (Allot asked align) Exhausted plain none x = (none_serves t.shape s m f same x.0, x.1, x.2)
  allows_by before now c (Allot asked align) PagesFailed plain none x = (none_serves t.shape s m f same x.0, x.1, x.2, x.3, x.4)
  allows_by before now c (GiveBack a stated) NoSlot plain none x = x
  allows_by before now c (GiveBack a stated) Unused plain none x = x
  allows_by before now c (GiveBack a stated) DoubleFree plain none x = x
  allows_by before now c (GiveBack a stated) (WrongSize block other) plain none x = (record { place = x.0.place; given = x.0.given; live = x.0.live }, x.1, x.2)
  allows_by before now c (GiveBack a stated) (Canary kept found) plain none x = absurd none
  allows_by before now c (GiveBack a stated) Freed plain none x = freed_by before now c a stated x
  allows_by before now c (Measure a) NoSlot plain none x = x
  allows_by before now c (Measure a) Unused plain none x = x
  allows_by before now c (Measure a) DoubleFree plain none x = x
  allows_by before now c (Measure a) (Usable size) plain none x = (record { place = x.0.place; given = x.0.given; live = x.0.live }, x.1, x.2)
  allows_by before now c (Fetch a len) reply plain none x = absurd plain
  allows_by before now c (Fill a runs) reply plain none x = absurd plain
  allows_by before now c call reply plain none x = absurd x

  first_by : (ch : Choices) (n i : ℕ) → first_free t.shape (opened t.shape ch.opened ch.canary s) n i ≡ first_free t.shape (opened t.shape ch.opened ch.canary (at_slabs m f s)) n i
  first_by ch n i =
      let p : Shape = t.shape in
      let now : State = opened p ch.opened ch.canary s in
      let m' : List (ℕ × Slab) = opened_slabs p ch.opened ch.canary m in
      (λ j. option_map (place p n) (find (λ k. free_same p now m' f (opened_keys p ch.opened ch.canary s m same) n k j) (range_with_len i (p.slots - i) ++ range_with_len 0 i)))
      ∙ ap (λ (x : State). first_free p x n i) (sym (opened_same p ch.opened ch.canary m f s))

no_bytes : (t : Terms) (s : State) (before now : ℕ) (c : Choices) (call : Call) (r : Reply) → IsPlain call → Allows t s before now c call r → HasRuns r
no_bytes t s before now c (Allot asked align) (Bytes runs) h x = absurd x
no_bytes t s before now c (GiveBack a stated) (Bytes runs) h x = absurd x
no_bytes t s before now c (Measure a) (Bytes runs) h x = absurd x
no_bytes t s before now c (Fetch a len) (Bytes runs) h x = absurd h
no_bytes t s before now c (Fill a runs) (Bytes others) h x = absurd h
no_bytes t s before now c call r h x = tt

-- what is known of an entry is known over slabs without bytes
event_by : (t : Terms) (c : Cells) (m : List (ℕ × Slab)) (f : ℕ) (e : Entry) (ev : Event) → keys c.state.opens ≡ keys m → AreBare m → IsSteppedEvent t c e ev → IsSteppedEvent t (at_cells m f c) e ev
event_by t c m f e (Picked a) same bare_m x = record {
  picked = record { canary = x.picked.canary; place = sym (first_by t c.state m f same bare_m e.choices (slab_of t.shape a) (start_slot t e.choices e.draws)) ∙ x.picked.place };
  source = x.source;
}
event_by t c m f e (Returned a) same bare_m x = record { released = x.released; unparked = x.unparked }
event_by t c m f e Undrawn same bare_m x = x

stands_bare : (t : Terms) (c : Cells) (e : Entry) (call : Call) (r : Reply) → IsPlain call → FindsNone r → Knows t c e call r → Stands t (at_cells (bare c.state.opens) 0 c) e call r
stands_bare t c e call r plain none x =
    let m : List (ℕ × Slab) = bare c.state.opens in
    let same : keys c.state.opens ≡ keys m = bare_keys c.state.opens in
    record {
      before = x.before;
      now = x.now;
      allows = allows_by t c.state m 0 same (are_bare c.state.opens) x.before x.now e.choices call r plain none x.allows;
      draws = x.draws;
      count = x.count;
      words = x.words;
      stepped = event_by t c m 0 e (event_of call r) same (are_bare c.state.opens) x.stepped;
      runs = no_bytes t c.state x.before x.now e.choices call r plain x.allows;
    }

-- ---- two entries that ask so
module _ (t : Terms) (c : Cells) (m : List (ℕ × Slab)) (f : ℕ) (shape : IsShape t.shape) (told : IsTrue t.told) (h : AlikeSlabs t.shape Any c.state.opens m) (d e : Entry) where
  there : (call : Call) (r : Reply) → IsPlain call → FindsNone r → Knows t (at_cells m f c) e call r → Stands t (at_cells (bare c.state.opens) 0 c) e call r
  there call r plain none x =
      subst (λ (l : List (ℕ × Slab)). Stands t (at_cells l 0 c) e call r) (sym (bare_same t.shape c.state.opens m h)) (stands_bare t (at_cells m f c) e call r plain none x)

  agrees : (call : Call) (r q : Reply) → IsPlain call → (is_page_fault r || is_some d.choices.purged) ≡ (is_page_fault q || is_some e.choices.purged) → FindsNone r → FindsNone q
      → Knows t c d call r → Knows t (at_cells m f c) e call q → SameOutcome d e r q
  agrees call r q plain flag none also x y =
      from_agree d e r q (agree t (at_cells (bare c.state.opens) 0 c) d e call r q shape told flag (stands_bare t c d call r plain none x) (there call q plain also y))

  same_call : (call : Call) (r q : Reply) → (is_page_fault r || is_some d.choices.purged) ≡ (is_page_fault q || is_some e.choices.purged) → FindsNone r → FindsNone q
      → Knows t c d call r → Knows t (at_cells m f c) e call q → SameOutcome d e r q
  same_call (Allot asked align) r q flag none also x y = agrees (Allot asked align) r q tt flag none also x y
  same_call (GiveBack a stated) r q flag none also x y = agrees (GiveBack a stated) r q tt flag none also x y
  same_call (Measure a) r q flag none also x y = agrees (Measure a) r q tt flag none also x y
  same_call (Fetch a len) r q flag none also x y = fetches t c Any m f shape told h d e a len r q x y
  same_call (Fill a runs) r q flag none also x y = fills t c Any m f shape told h d e a runs runs r q refl x y

  one_outcome : AskWritten d e → FindsNone d.reply → FindsNone e.reply → Allowed t c.state d → IsSteppedEntry t c d → Allowed t (at_slabs m f c.state) e → IsSteppedEntry t (at_cells m f c) e
      → SameOutcome d e d.reply e.reply
  one_outcome ask none none_also allowed stepped other also =
      let x : Knows t c d d.call d.reply = knows t c d allowed stepped in
      let y : Knows t (at_cells m f c) e e.call e.reply = knows t (at_cells m f c) e other also in
      ⊎_elim
      (λ same. same_call d.call d.reply e.reply ask.page_fault none none_also x (subst (λ (k : Call). Knows t (at_cells m f c) e k e.reply) (sym same) y))
      (λ fill. fills t c Any m f shape told h d e fill.from fill.runs fill.others d.reply e.reply fill.count
      (subst (λ (k : Call). Knows t c d k d.reply) fill.call_is x)
      (subst (λ (k : Call). Knows t (at_cells m f c) e k e.reply) fill.other_is y))
      ask.calls

-- ---- the states after them
record AreAny (p : Shape) (s s' : State) (f : ℕ) : Type 0 where
  slabs : List (ℕ × Slab)
  is : s' ≡ at_slabs slabs f s
  alike : AlikeSlabs p Any s.opens slabs

freed_any : (p : Shape) (c : Choices) (b : ℕ) (stated : Option ℕ) (s : State) (m : List (ℕ × Slab)) (f : ℕ) → AlikeSlabs p Any s.opens m
    → AreAny p (changed p c (GiveBack b stated) Freed s) (changed p c (GiveBack b stated) Freed (at_slabs m f s)) f
freed_any p c b stated s m f h =
    let s₁ : State = takes_back p b s in
    let m₁ : List (ℕ × Slab) = overlaid_slabs p b (zeros (usable p)) m in
    let s₂ : State = releases c.released s₁ in
    let s₃ : State = unparks c.unparked s₂ in
    let s₄ : State = retires c.retired s₃ in
    let first : AlikeSlabs p Any s₁.opens m₁ = alike_write p Any Any b (zeros (usable p)) s.opens m (λ q out. inl out) h in
    let second : AlikeSlabs p Any s₃.opens m₁ = subst (λ (l : List (ℕ × Slab)). AlikeSlabs p Any l m₁) (sym (unparks_opens c.unparked s₂ ∙ releases_opens c.released s₁)) first in
    let third : AlikeSlabs p Any s₄.opens (retired_slabs c.retired m₁) = retires_alike p Any c.retired s₃ m₁ second in
    record {
      slabs = purged_slabs p c.purged (retired_slabs c.retired m₁);
      is = ap (λ (x : State). purges p c.purged (retires c.retired (unparks c.unparked x))) (releases_same c.released m₁ f s₁)
          ∙ ap (λ (x : State). purges p c.purged (retires c.retired x)) (unparks_same c.unparked m₁ f s₂)
          ∙ ap (λ (x : State). purges p c.purged x) (retires_same c.retired m₁ f s₃)
          ∙ purges_same p c.purged (retired_slabs c.retired m₁) f s₄;
      alike = purges_alike p Any c.purged s₄ (retired_slabs c.retired m₁) third;
    }

-- the same call with the same reply
any_call : (t : Terms) (s : State) (m : List (ℕ × Slab)) (f before now : ℕ) (c : Choices) (call : Call) (reply : Reply) → IsShape t.shape → AlikeSlabs t.shape Any s.opens m → FindsNone reply
    → Allows t s before now c call reply → AreAny t.shape (changed t.shape c call reply s) (changed t.shape c call reply (at_slabs m f s)) f
any_call t s m f before now c (Allot asked align) (Given b size) shape h none allows =
    let p : Shape = t.shape in
    let s₁ : State = opened p c.opened c.canary s in
    let m₁ : List (ℕ × Slab) = opened_slabs p c.opened c.canary m in
    let first : AlikeSlabs p Any s₁.opens m₁ = opened_alike p Any c.opened c.canary s m h in
    let at_b = picked_place p s s₁ c b allows.0 in
    let row : slot_of p b * p.slot + p.slot ≤ p.slab = omega (arith, slot_row p.slot (slot_of p b) p.slots at_b.slot, shape.slots_fit) in
    let kept : kept_canary p s₁ b ≡ kept_canary p (at_slabs m₁ f s₁) b = kept_same p Any s₁ m₁ f first (slab_of p b) (slot_of p b) b at_b (omega (arith, row, shape.slot_least)) allows.0.open_slab in
    let w : List ℕ = to_le_bytes w64 (kept_canary p s₁ b) in
    record {
      slabs = overlaid_slabs p (b + usable p) w m₁;
      is = ap (λ (x : State). gives p b asked x) (opened_same p c.opened c.canary m f s)
          ∙ (λ i. at_slabs (overlaid_slabs p (b + usable p) (to_le_bytes w64 (sym kept i)) m₁) f (gives p b asked s₁));
      alike = alike_write p Any Any (b + usable p) w s₁.opens m₁ (λ q out. inl out) first;
    }
any_call t s m f before now c (Allot asked align) (Overwritten b at found) shape h none allows = absurd none
any_call t s m f before now c (GiveBack b stated) Freed shape h none allows = freed_any t.shape c b stated s m f h
any_call t s m f before now c (Fill b runs) Filled shape h none allows =
    record { slabs = overlaid_slabs t.shape b (expand runs) m; is = refl; alike = alike_write t.shape Any Any b (expand runs) s.opens m (λ q out. inl out) h }
any_call t s m f before now c call reply shape h none allows = record { slabs = m; is = refl; alike = h }

-- two fills
any_fills : (t : Terms) (s : State) (m : List (ℕ × Slab)) (f before now since then : ℕ) (c d : Choices) (from : ℕ) (runs others : List (ℕ × ℕ)) (r q : Reply) → length (expand others) ≡ length (expand runs)
    → AlikeSlabs t.shape Any s.opens m → Allows t s before now c (Fill from runs) r → Allows t (at_slabs m f s) since then d (Fill from others) q → is_filled r ≡ is_filled q
    → AreAny t.shape (changed t.shape c (Fill from runs) r s) (changed t.shape d (Fill from others) q (at_slabs m f s)) f
any_fills t s m f before now since then c d from runs others Filled Filled count h x y same = record {
  slabs = overlaid_slabs t.shape from (expand others) m;
  is = refl;
  alike = alike_writes t.shape Any from (expand runs) (expand others) s.opens m count (λ q low high. tt) h;
}
any_fills t s m f before now since then c d from runs others (Trap r) (Trap q) count h x y same = record { slabs = m; is = refl; alike = h }
any_fills t s m f before now since then c d from runs others Filled (Trap q) count h x y same = absurd (true≢false same)
any_fills t s m f before now since then c d from runs others (Trap r) Filled count h x y same = absurd (true≢false (sym same))
any_fills t s m f before now since then c d from runs others Filled q count h x y same = absurd y
any_fills t s m f before now since then c d from runs others (Trap r) q count h x y same = absurd y
any_fills t s m f before now since then c d from runs others r q count h x y same = absurd x

any_faults : (p : Shape) (s s' : State) (f x y : ℕ) → AreAny p s s' f → AreAny p (record s { faults = x }) (record s' { faults = y }) y
any_faults p s s' f x y h = record { slabs = h.slabs; is = ap (λ (z : State). record z { faults = y }) h.is; alike = h.alike }

states_any : (t : Terms) (s : State) (m : List (ℕ × Slab)) (f : ℕ) (d e : Entry) → IsShape t.shape → AlikeSlabs t.shape Any s.opens m → AskWritten d e → FindsNone d.reply
    → Allowed t s d → Allowed t (at_slabs m f s) e → SameOutcome d e d.reply e.reply → AreAny t.shape (step t.shape s d) (step t.shape (at_slabs m f s) e) e.faults_after
states_any t s m f d e shape h ask none allowed other out =
    let p : Shape = t.shape in
    any_faults p (changed p d.choices d.call d.reply s) (changed p e.choices e.call e.reply (at_slabs m f s)) f d.faults_after e.faults_after
    (⊎_elim
    (λ same. (let path : changed p e.choices e.call e.reply (at_slabs m f s) ≡ changed p d.choices d.call d.reply (at_slabs m f s) =
    sym (unread_changed p e.choices e.call e.reply (at_slabs m f s))
    ∙ (λ i. changed p (sym out.choices i) (sym same i) (sym out.replies i) (at_slabs m f s))
    ∙ unread_changed p d.choices d.call d.reply (at_slabs m f s) in
    subst (λ (x : State). AreAny p (changed p d.choices d.call d.reply s) x f) (sym path) (any_call t s m f d.faults_before d.faults_after d.choices d.call d.reply shape h none allowed.allows)))
    (λ fill.
    subst (λ (k : Call). AreAny p (changed p d.choices k d.reply s) (changed p e.choices e.call e.reply (at_slabs m f s)) f) (sym fill.call_is)
    (subst (λ (k : Call). AreAny p (changed p d.choices (Fill fill.from fill.runs) d.reply s) (changed p e.choices k e.reply (at_slabs m f s)) f) (sym fill.other_is)
    (any_fills t s m f d.faults_before d.faults_after e.faults_before e.faults_after d.choices e.choices fill.from fill.runs fill.others d.reply e.reply fill.count h
    (subst (λ (k : Call). Allows t s d.faults_before d.faults_after d.choices k d.reply) fill.call_is allowed.allows)
    (subst (λ (k : Call). Allows t (at_slabs m f s) e.faults_before e.faults_after e.choices k e.reply) fill.other_is other.allows)
    (sym (filled_unread d.reply) ∙ ap is_filled out.replies ∙ filled_unread e.reply))))
    ask.calls)

events_any : (d e : Entry) → AskWritten d e → SameOutcome d e d.reply e.reply → event e ≡ event d
events_any d e ask out =
    ⊎_elim
    (λ same. sym (unread_event e.call e.reply) ∙ (λ i. event_of (sym same i) (sym out.replies i)) ∙ unread_event d.call d.reply)
    (λ fill. ap (λ (k : Call). event_of k e.reply) fill.other_is ∙ sym (ap (λ (k : Call). event_of k d.reply) fill.call_is))
    ask.calls

-- ---- two histories
steers : (t : Terms) (c : Cells) (m : List (ℕ × Slab)) (f : ℕ) (es fs : List Entry) → IsShape t.shape → IsTrue t.told → AlikeSlabs t.shape Any c.state.opens m
    → Legal (step t.shape) (Allowed t) c.state es → Legal (step t.shape) (Allowed t) (at_slabs m f c.state) fs
    → Legal (next t) (IsSteppedEntry t) c es → Legal (next t) (IsSteppedEntry t) (at_cells m f c) fs
    → AllAskWritten es fs → AllFindNone es → AllFindNone fs → map outcome_of es ≡ map outcome_of fs
steers t c m f [] [] shape told h legal other stepped also ask none none_also = refl
steers t c m f [] (e ∷ fs) shape told h legal other stepped also ask none none_also = absurd ask
steers t c m f (d ∷ es) [] shape told h legal other stepped also ask none none_also = absurd ask
steers t c m f (d ∷ es) (e ∷ fs) shape told h legal other stepped also ask none none_also =
    let p : Shape = t.shape in
    let out = one_outcome t c m f shape told h d e ask.0 none.0 none_also.0 legal.0 stepped.0 other.0 also.0 in
    let after = states_any t c.state m f d e shape h ask.0 none.0 legal.0 other.0 out in
    let cells_are = cells_alike t c m after.slabs f d e (alike_keys p Any c.state.opens m h) (events_any d e ask.0 out) out after.is (alike_keys p Any (step p c.state d).opens after.slabs after.alike) in
    let rest = steers t (next t c d) after.slabs e.faults_after es fs shape told after.alike legal.1
    (subst (λ (x : State). Legal (step p) (Allowed t) x fs) after.is other.1) stepped.1
    (subst (λ (x : Cells). Legal (next t) (IsSteppedEntry t) x fs) cells_are also.1) ask.1 none.1 none_also.1 in
    λ i. record { reply = out.replies i; choices = out.choices i; draws = out.draws i } ∷ rest i

pub writes_steer_nothing : WritesSteerNothing
writes_steer_nothing seed arena t es fs h ask none none_also =
    steers t (first_cells seed arena t) [] 0 es fs h.shape h.told tt h.legal h.other_legal
    ((drawn_is_stepped seed arena t es h.parks h.shape h.legal).0 h.drawn).entries
    ((drawn_is_stepped seed arena t fs h.parks h.shape h.other_legal).0 h.other_drawn).entries ask none none_also
