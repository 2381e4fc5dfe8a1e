-- A freed block is refused until one is given there, and gone until one is given over it.
use Rattle.std.proofs.Common.{◌≡◌, ◌≢◌, ◌⊎◌, inl, inr, ⊎_elim, ℕ, ◌+◌, ◌<◌, ◌≤◌, ◌==◌, Bool, true, false, cond, List, [], ◌∷◌, ◌++◌, map, not, Option, Some, None, is_some, unwrap_or, sym, ◌∙◌, ap, subst, refl, arith, true≢false}
use Rattle.std.specs.Prelude.{option_map}
use Rattle.std.proofs.lemmas.Bool.{cases_eq}
use Rattle.std.proofs.lemmas.Option.{none-some, same_Some}
use Rattle.hm_model.specs.declared.entry.Entry.{Entry}
use Rattle.hm_model.specs.declared.entry.Call.{Call}
use Rattle.hm_model.specs.declared.entry.Call.TheVariants.{Allot, GiveBack, Measure, Fill}
use Rattle.hm_model.specs.declared.entry.Reply.{Reply}
use Rattle.hm_model.specs.declared.entry.Reply.TheVariants.{Given, PagesFailed, Freed, WrongSize, NotLive, Usable, Filled}
use Rattle.hm_model.specs.Calls.{IsFreedAt}
use Rattle.hm_model.specs.Machine.{state_after, Legal_split, state_append}
use Rattle.hm_model.specs.Maps.{at, has, removed}
use Rattle.hm_model.specs.Runs.{expand}
use Rattle.hm_model.proofs.Lists.{eq_same, other_eq}
use Rattle.hm_large_rules.specs.State.{Block, Blocks, size_for, is_quarantined, State, start}
use Rattle.hm_large_rules.specs.Steps.{new_block, mark, marked, takes_back, releases, free_at, changed, step}
use Rattle.hm_large_rules.specs.Bytes.{overlay, overlaid_blocks}
use Rattle.hm_large_rules.specs.Rules.{Terms, Allows, Allowed, state, wrong_size}
use Rattle.hm_large_rules.proofs.BlockLists.{at_removed, at_removed_same}
use Rattle.hm_guarantees.proofs.BlockBytes.{Finds, no_byte}
use Rattle.hm_large_rules.proofs.Legal.{sound, apart}
use Rattle.hm_guarantees.specs.FreedBlocks.{GivesNoneAt, GivesNoneOver, RefusesFreed, FreedBlocks, FreedBytes}

-- ---- an entry at its call and its reply
pub allows_call : (t : Terms) (s : State) (e : Entry) (call : Call) → Allowed t s e → e.call ≡ call → Allows t s e call e.reply
allows_call t s e call allowed is = subst (λ (x : Call). Allows t s e x e.reply) is allowed.allows

pub allows_at : (t : Terms) (s : State) (e : Entry) (call : Call) (reply : Reply) → Allowed t s e → e.call ≡ call → e.reply ≡ reply → Allows t s e call reply
allows_at t s e call reply allowed is told = subst (λ (r : Reply). Allows t s e call r) told (allows_call t s e call allowed is)

-- ---- live blocks
-- what a free leaves live
pub back_live : (a word : ℕ) (o : Option Block) (r : Option ℕ) (s : State) → at a s.live ≡ o → (releases r (takes_back a word o s)).live ≡ removed a s.live
back_live a word o r s e = released r (takes_back a word o s) ∙ taken o e
  where
    released : (r : Option ℕ) (s : State) → (releases r s).live ≡ s.live
    released None s = refl
    released (Some b) s = refl

    choice : (b : Bool) (x : Block) → (cond b (record s { live = removed a s.live; quarantined = (a, x) ∷ s.quarantined; frees = free_at a word ∷ s.frees }) (record s { live = removed a s.live })).live ≡ removed a s.live
    choice true x = refl
    choice false x = refl

    taken : (o : Option Block) → at a s.live ≡ o → (takes_back a word o s).live ≡ removed a s.live
    taken (Some x) e = choice (is_quarantined x) x
    taken None e = sym (none_removed a s.live e)
      where
        none_removed : (a : ℕ) (m : Blocks) → at a m ≡ None → removed a m ≡ m
        none_removed a [] e = refl
        none_removed a (y ∷ m) e =
            elim (y.0 == a) as (λ t. cond t (Some y.1) (at a m) ≡ None → cond (not t) (y ∷ removed a m) (removed a m) ≡ y ∷ m) [
              | true ↦ λ h. absurd (none-some y.1 (sym h))
              | false ↦ λ h. ap (λ (l : Blocks). y ∷ l) (none_removed a m h)
            ] e

-- blocks that are changed in place: the one at a key
pub at_map : (f : ℕ × Block → ℕ × Block) → ((e : ℕ × Block) → (f e).0 ≡ e.0) → (k : ℕ) (m : Blocks) → at k (map f m) ≡ option_map (λ (b : Block). (f (k, b)).1) (at k m)
at_map f same k [] = refl
at_map f same k (e ∷ m) =
    ap (λ (x : ℕ). cond (x == k) (Some (f e).1) (at k (map f m))) (same e)
    ∙ (elim (e.0 == k) as (λ t. (e.0 == k) ≡ t → cond t (Some (f e).1) (at k (map f m)) ≡ option_map (λ (b : Block). (f (k, b)).1) (cond t (Some e.1) (at k m))) [
      | true ↦ λ is. ap (λ (x : ℕ). Some (f (x, e.1)).1) (eq_same e.0 k is)
      | false ↦ λ is. at_map f same k m
    ] refl)

-- ---- refused until one is given there
spent_changed : (t : Terms) (s : State) (e : Entry) (call : Call) (reply : Reply) (a : ℕ) → ((asked align size : ℕ) → call ≡ Allot asked align → reply ≡ Given a size → ⊥) → has a s.live ≡ false → has a (changed e call reply s).live ≡ false
spent_changed t s e (Allot asked align) (Given b size) a none dead =
    let ne : b ≢ a = λ same. none asked align size refl (ap (λ (x : ℕ). Given x size) same) in
    ap (λ (x : Bool). is_some (cond x (Some (new_block asked (unwrap_or e.choices.guard 0))) (at a s.live))) (other_eq b a ne) ∙ dead
spent_changed t s e (GiveBack b stated) PagesFailed a none dead = marked_none b a s.live ∙ dead
  where
    marked_none : (b a : ℕ) (m : Blocks) → has a (marked b m) ≡ has a m
    marked_none b a m = ap (λ (o : Option Block). is_some o) (at_map (mark b) (λ e. refl) a m) ∙ some_map (at a m)
      where
        some_map : (o : Option Block) → is_some (option_map (λ (x : Block). (mark b (a, x)).1) o) ≡ is_some o
        some_map None = refl
        some_map (Some x) = refl
spent_changed t s e (GiveBack b stated) Freed a none dead = ap (λ (l : Blocks). has a l) (back_live b e.draws.w0 (at b s.live) e.choices.released s refl) ∙ by (cases_eq b a)
  where
    by : (b ≡ a) ⊎ (b ≡ a → ⊥) → has a (removed b s.live) ≡ false
    by (inl same) = ap (λ (k : ℕ). has a (removed k s.live)) same ∙ ap (λ (o : Option Block). is_some o) (at_removed_same a s.live)
    by (inr ne) = ap (λ (o : Option Block). is_some o) (at_removed a b s.live ne) ∙ dead
spent_changed t s e (Fill b runs) Filled a none dead = written_none (expand runs) b a s.live ∙ dead
  where
    written_none : (w : List ℕ) (b a : ℕ) (m : Blocks) → has a (overlaid_blocks b w m) ≡ has a m
    written_none w b a m = ap (λ (o : Option Block). is_some o) (at_map (overlay b w) (λ e. refl) a m) ∙ some_map (at a m)
      where
        some_map : (o : Option Block) → is_some (option_map (λ (x : Block). (overlay b w (a, x)).1) o) ≡ is_some o
        some_map None = refl
        some_map (Some x) = refl
spent_changed t s e call reply a none dead = dead

spent_run : (t : Terms) (s : State) (es : List Entry) (a : ℕ) → GivesNoneAt a es → has a s.live ≡ false → has a (state_after step (Allowed t) s es).live ≡ false
spent_run t s [] a none dead = dead
spent_run t s (e ∷ es) a none dead =
    spent_run t (step s e) es a none.1 (spent_changed t s e e.call e.reply a (λ asked align size is told. none.0 asked (record { align = align; usable = size; call = is; reply = told })) dead)

freed_live : (s : State) (e : Entry) (a : ℕ) → IsFreedAt e a → (step s e).live ≡ removed a s.live
freed_live s e a is =
    ap (λ (c : Call). (changed e c e.reply s).live) is.call ∙ ap (λ (r : Reply). (changed e (GiveBack a is.stated) r s).live) is.reply
    ∙ back_live a e.draws.w0 (at a s.live) e.choices.released s refl

none_wrong : (o : Option Block) (stated : Option ℕ) (found : ℕ × ℕ) → is_some o ≡ false → wrong_size o stated ≡ Some found → ⊥
none_wrong None stated found e h = none-some found h
none_wrong (Some x) stated found e h = true≢false e

none_size : (o : Option Block) (size : ℕ) → is_some o ≡ false → option_map (λ (b : Block). b.size) o ≡ Some size → ⊥
none_size None size e h = none-some size h
none_size (Some x) size e h = true≢false e

free_refused : (t : Terms) (s : State) (e : Entry) (a : ℕ) (stated : Option ℕ) (reply : Reply) → has a s.live ≡ false → Allows t s e (GiveBack a stated) reply → reply ≡ NotLive
free_refused t s e a stated NotLive dead h = refl
free_refused t s e a stated (WrongSize block other) dead h = absurd (none_wrong (at a s.live) stated (block, other) dead h.0)
free_refused t s e a stated PagesFailed dead h = absurd (true≢false (sym h.0 ∙ dead))
free_refused t s e a stated Freed dead h = absurd (true≢false (sym h.block ∙ dead))
free_refused t s e a stated reply dead h = absurd h

size_refused : (t : Terms) (s : State) (e : Entry) (a : ℕ) (reply : Reply) → has a s.live ≡ false → Allows t s e (Measure a) reply → reply ≡ NotLive
size_refused t s e a NotLive dead h = refl
size_refused t s e a (Usable size) dead h = absurd (none_size (at a s.live) size dead h.0)
size_refused t s e a reply dead h = absurd h

refuses : (t : Terms) (s : State) (e : Entry) (a : ℕ) → has a s.live ≡ false → Allowed t s e → RefusesFreed s e a
refuses t s e a dead allowed = record {
  free = refused;
  live = λ stated is. ap (λ (c : Call). (changed e c e.reply s).live) is ∙ ap (λ (r : Reply). (changed e (GiveBack a stated) r s).live) (refused stated is);
  quarantined = λ stated is. ap (λ (c : Call). (changed e c e.reply s).quarantined) is ∙ ap (λ (r : Reply). (changed e (GiveBack a stated) r s).quarantined) (refused stated is);
  size = λ is. size_refused t s e a e.reply dead (allows_call t s e (Measure a) allowed is);
}
  where
    refused : (stated : Option ℕ) → e.call ≡ GiveBack a stated → e.reply ≡ NotLive
    refused stated is = free_refused t s e a stated e.reply dead (allows_call t s e (GiveBack a stated) allowed is)

pub freed_blocks : FreedBlocks
freed_blocks t before middle freed e a legal is none =
    let p₀ = Legal_split step (Allowed t) start before (freed ∷ (middle ++ (e ∷ []))) legal in
    let s₀ : State = step (state t before) freed in
    let p₁ = Legal_split step (Allowed t) s₀ middle (e ∷ []) p₀.1.1 in
    let s : State = state_after step (Allowed t) s₀ middle in
    let dead : has a s₀.live ≡ false = ap (λ (l : Blocks). has a l) (freed_live (state t before) freed a is) ∙ ap (λ (o : Option Block). is_some o) (at_removed_same a (state t before).live) in
    subst (λ (x : State). RefusesFreed x e a) (sym (state_append step (Allowed t) start before (freed ∷ middle)))
    (refuses t s e a (spent_run t s₀ middle a none dead) p₁.1.0)

-- ---- gone until one is given over it
found_map : (f : ℕ × Block → ℕ × Block) (q : ℕ) (m : Blocks) → ((e : ℕ × Block) → (f e).0 ≡ e.0) → ((e : ℕ × Block) → (f e).1.size ≡ e.1.size) → Finds (map f m) q → Finds m q
found_map f q m same size h = by (at h.a m) refl
  where
    by : (o : Option Block) → at h.a m ≡ o → Finds m q
    by None e = absurd (none-some h.x (sym (ap (λ (o : Option Block). option_map (λ (b : Block). (f (h.a, b)).1) o) e) ∙ sym (at_map f same h.a m) ∙ h.there))
    by (Some b) e =
        let is : (f (h.a, b)).1 ≡ h.x = same_Some _ h.x (sym (ap (λ (o : Option Block). option_map (λ (b : Block). (f (h.a, b)).1) o) e) ∙ sym (at_map f same h.a m) ∙ h.there) in
        let size_is : b.size ≡ h.x.size = sym (size (h.a, b)) ∙ ap (λ (x : Block). x.size) is in
        record { a = h.a; x = b; there = e; low = h.low; high = omega (arith, h.high, size_is) }

removed_at : (k : ℕ) (m : Blocks) (n : ℕ) (b : Block) → at n (removed k m) ≡ Some b → at n m ≡ Some b
removed_at k m n b e =
    ⊎_elim
    (λ same. absurd (none-some b (sym (at_removed_same k m) ∙ ap (λ (x : ℕ). at x (removed k m)) same ∙ e)))
    (λ ne. sym (at_removed n k m ne) ∙ e)
    (cases_eq k n)

gone_changed : (e : Entry) (call : Call) (reply : Reply) (s : State) (q : ℕ) → ((b asked align size : ℕ) → call ≡ Allot asked align → reply ≡ Given b size → (q < b) ⊎ (b + size_for asked ≤ q)) → (Finds s.live q → ⊥) → Finds (changed e call reply s).live q → ⊥
gone_changed e (Allot asked align) (Given b size) s q none gone h =
    elim (b == h.a) as (λ t. (b == h.a) ≡ t → cond t (Some (new_block asked (unwrap_or e.choices.guard 0))) (at h.a s.live) ≡ Some h.x → ⊥) [
      | true ↦ λ is found. (let same : b ≡ h.a = eq_same b h.a is in let size_is : size_for asked ≡ h.x.size = ap (λ (x : Block). x.size) (same_Some _ h.x found) in
          ⊎_elim (λ lt. omega (arith, lt, same, h.low)) (λ past. omega (arith, past, same, size_is, h.high)) (none b asked align size refl refl))
      | false ↦ λ is found. gone (record { a = h.a; x = h.x; there = found; low = h.low; high = h.high })
    ] refl h.there
gone_changed e (GiveBack b stated) PagesFailed s q none gone h = gone (found_map (mark b) q s.live (λ e. refl) (λ e. refl) h)
gone_changed e (GiveBack b stated) Freed s q none gone h =
    gone (record { a = h.a; x = h.x; there = removed_at b s.live h.a h.x (ap (λ (l : Blocks). at h.a l) (sym (back_live b e.draws.w0 (at b s.live) e.choices.released s refl)) ∙ h.there); low = h.low; high = h.high })
gone_changed e (Fill b runs) Filled s q none gone h = gone (found_map (overlay b (expand runs)) q s.live (λ e. refl) (λ e. refl) h)
gone_changed e call reply s q none gone h = gone h

gone_run : (t : Terms) (s : State) (es : List Entry) (q : ℕ) → GivesNoneOver q es → (Finds s.live q → ⊥) → Finds (state_after step (Allowed t) s es).live q → ⊥
gone_run t s [] q none gone = gone
gone_run t s (e ∷ es) q none gone =
    gone_run t (step s e) es q none.1 (gone_changed e e.call e.reply s q (λ b asked align size is told. none.0 b asked (record { align = align; usable = size; call = is; reply = told })) gone)

pub freed_bytes : FreedBytes
freed_bytes t before middle freed a q block legal is live low high none =
    let p₀ = Legal_split step (Allowed t) start before (freed ∷ middle) legal in
    let s₀ : State = step (state t before) freed in
    let gone : Finds s₀.live q → ⊥ = λ h. (let there : at h.a (removed a (state t before).live) ≡ Some h.x = ap (λ (l : Blocks). at h.a l) (sym (freed_live (state t before) freed a is)) ∙ h.there in
    ⊎_elim
    (λ same. none-some h.x (sym (at_removed_same a (state t before).live) ∙ ap (λ (k : ℕ). at k (removed a (state t before).live)) same ∙ there))
    (λ ne. ⊎_elim
    (λ l. omega (arith, l, high, h.low))
    (λ r. omega (arith, r, low, h.high))
    (apart t before a h.a block h.x p₀.0 live (removed_at a (state t before).live h.a h.x there) ne))
    (cases_eq a h.a)) in
    no_byte t.config (state t (before ++ (freed ∷ middle))) q (sound t (before ++ (freed ∷ middle)) legal)
    (λ h. gone_run t s₀ middle q none gone (subst (λ (x : State). Finds x.live q) (state_append step (Allowed t) start before (freed ∷ middle)) h))
