-- What the changes of entries make of sizes are those of the live blocks.
use Rattle.std.proofs.Common.{◌≡◌, ◌==◌, ℕ, ◌+◌, true, false, cond, not, List, [], ◌∷◌, map, fold, Option, Some, None, refl, sym, ap, ◌∙◌, arith}
use Rattle.std.proofs.lemmas.Option.{none-some}
use Rattle.std.proofs.lemmas.List.Sums.{fold-append, sum_by-cons}
use Rattle.std.specs.Prelude.{unwrap_or, option_map}
use Rattle.std.specs.List.{sum_by}
use Rattle.hm_model.specs.declared.entry.Entry.{Entry}
use Rattle.hm_model.specs.declared.entry.Call.{Call}
use Rattle.hm_model.specs.declared.entry.Call.TheVariants.{Allot, GiveBack, Measure, Fetch, Fill}
use Rattle.hm_model.specs.declared.entry.Reply.{Reply}
use Rattle.hm_model.specs.declared.entry.Reply.TheVariants.{Given, PagesFailed, Freed, Filled}
use Rattle.hm_model.specs.Machine.{state_after, Legal}
use Rattle.hm_model.specs.Changes.{change, changes_of}
use Rattle.hm_model.specs.Maps.{at, removed}
use Rattle.hm_model.specs.Runs.{expand}
use Rattle.hm_large_rules.specs.State.{Block, Blocks, size_for, is_quarantined, State, start}
use Rattle.hm_large_rules.specs.Steps.{mark, step, changed, takes_back, releases, free_at}
use Rattle.hm_large_rules.specs.Bytes.{overlay}
use Rattle.hm_large_rules.specs.Rules.{Terms, Allowed, Allows, Asks, state}
use Rattle.hm_large_rules.specs.Laws.{IsSound}
use Rattle.hm_large_rules.specs.LiveSizes.{LiveSizes}
use Rattle.hm_large_rules.proofs.Legal.{sound_step, size_is}
use Rattle.hm_large_rules.proofs.SizeMaps.{listed, sum, alike_all, none_alike}
use Rattle.hm_large_rules.proofs.Candidates.{not_live}

-- a block's address and size
abbrev size_of : ℕ × Block → ℕ × ℕ
size_of e = (e.0, e.1.size)

abbrev resized : List (ℕ × ℕ) → Call → Reply → List (ℕ × ℕ)
resized m call reply = fold listed m (change call reply)

gone : (a : ℕ) (m : Blocks) → map size_of (removed a m) ≡ removed a (map size_of m)
gone a [] = refl
gone a (x ∷ m) =
    elim (x.0 == a) as (λ b. map size_of (cond (not b) (x ∷ removed a m) (removed a m)) ≡ cond (not b) (size_of x ∷ removed a (map size_of m)) (removed a (map size_of m))) [
      | true ↦ gone a m
      | false ↦ ap (λ l. size_of x ∷ l) (gone a m)
    ]

absent : (a : ℕ) (m : Blocks) → at a m ≡ None → removed a (map size_of m) ≡ map size_of m
absent a [] e = refl
absent a (x ∷ m) e =
    elim (x.0 == a) as (λ b. cond b (Some x.1) (at a m) ≡ None → cond (not b) (size_of x ∷ removed a (map size_of m)) (removed a (map size_of m)) ≡ size_of x ∷ map size_of m) [
      | true ↦ λ h. absurd (none-some x.1 (sym h))
      | false ↦ λ h. ap (λ l. size_of x ∷ l) (absent a m h)
    ] e

none_of : (o : Option Block) → ((x : Block) → o ≡ Some x → ⊥) → o ≡ None
none_of None h = refl
none_of (Some x) h = absurd (h x refl)

released : (o : Option ℕ) (s : State) → (releases o s).live ≡ s.live
released None s = refl
released (Some b) s = refl

taken_back : (a word : ℕ) (o : Option Block) (s : State) → at a s.live ≡ o → map size_of (takes_back a word o s).live ≡ removed a (map size_of s.live)
taken_back a word None s e = sym (absent a s.live e)
taken_back a word (Some x) s e =
    elim (is_quarantined x) as (λ b. map size_of (cond b (record s { live = removed a s.live; quarantined = (a, x) ∷ s.quarantined; frees = free_at a word ∷ s.frees }) (record s { live = removed a s.live })).live ≡ removed a (map size_of s.live)) [
      | true ↦ gone a s.live
      | false ↦ gone a s.live
    ]

same_sizes : (f : ℕ × Block → ℕ × Block) → ((e : ℕ × Block) → size_of (f e) ≡ size_of e) → (m : Blocks) → map size_of (map f m) ≡ map size_of m
same_sizes f h [] = refl
same_sizes f h (x ∷ m) = λ i. h x i ∷ same_sizes f h m i

changed_sizes : (t : Terms) (s : State) (e : Entry) (call : Call) (reply : Reply) → Asks call → Allows t s e call reply → IsSound t.config s → resized (map size_of s.live) call reply ≡ map size_of (changed e call reply s).live
changed_sizes t s e (Allot asked align) (Given a size) asks allows h =
    let fits = allows.0.0.fits in
    let none : at a s.live ≡ None = none_of (at a s.live) (not_live t.config s align (size_for asked) (unwrap_or e.choices.guard 0) a (size_is asked asks.0).some h fits) in
    λ i. (a, allows.0.1 i) ∷ absent a s.live none i
changed_sizes t s e (GiveBack a stated) PagesFailed asks allows h = sym (same_sizes (mark a) (λ e. refl) s.live)
changed_sizes t s e (GiveBack a stated) Freed asks allows h = sym (ap (map size_of) (released e.choices.released _) ∙ taken_back a e.draws.w0 (at a s.live) s refl)
changed_sizes t s e (Fill a runs) Filled asks allows h = sym (same_sizes (overlay a (expand runs)) (λ e. refl) s.live)
changed_sizes t s e (GiveBack a stated) (Given b size) asks allows h = absurd allows
changed_sizes t s e (Measure a) (Given b size) asks allows h = absurd allows
changed_sizes t s e (Fetch a len) (Given b size) asks allows h = absurd allows
changed_sizes t s e (Fill a runs) (Given b size) asks allows h = absurd allows
changed_sizes t s e call reply asks allows h = refl

sizes_run : (t : Terms) (s : State) (es : List Entry) → IsSound t.config s → Legal step (Allowed t) s es
    → fold listed (map size_of s.live) (changes_of es) ≡ map size_of (state_after step (Allowed t) s es).live
sizes_run t s [] h legal = refl
sizes_run t s (e ∷ es) h legal =
    fold-append listed (map size_of s.live) (change e.call e.reply) (changes_of es)
    ∙ (ap (λ (m : List (ℕ × ℕ)). fold listed m (changes_of es)) (changed_sizes t s e e.call e.reply legal.0.asks legal.0.allows h)
    ∙ sizes_run t (step s e) es (sound_step t s e h legal.0) legal.1)

size_at_block : (a : ℕ) (m : Blocks) → at a (map size_of m) ≡ option_map (λ (b : Block). b.size) (at a m)
size_at_block a [] = refl
size_at_block a (x ∷ m) =
    elim (x.0 == a) as (λ t. cond t (Some x.1.size) (at a (map size_of m)) ≡ option_map (λ (b : Block). b.size) (cond t (Some x.1) (at a m))) [
      | true ↦ refl
      | false ↦ size_at_block a m
    ]

sum_of_blocks : (m : Blocks) → sum (map size_of m) ≡ sum_by (λ (e : ℕ × Block). e.1.size) m
sum_of_blocks [] = refl
sum_of_blocks (x ∷ m) =
    sum_by-cons (λ (e : ℕ × ℕ). e.1) (size_of x) (map size_of m)
    ∙ (ap (λ (n : ℕ). x.1.size + n) (sum_of_blocks m) ∙ sym (sum_by-cons (λ (e : ℕ × Block). e.1.size) x m))

pub live_sizes : LiveSizes
live_sizes t es legal =
    let rows : fold listed [] (changes_of es) ≡ map size_of (state t es).live =
    sizes_run t start es (record { live = tt; quarantined = tt; once = λ q. omega arith }) legal in
    let both = alike_all [] [] (changes_of es) none_alike in
    record {
      alike = λ a. both.same a ∙ (ap (at a) rows ∙ size_at_block a (state t es).live);
      total = both.total ∙ (ap sum rows ∙ sum_of_blocks (state t es).live);
    }
