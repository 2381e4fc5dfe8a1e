-- What the parts of a realloc's plan come to.
use Rattle.std.proofs.Common.{◌≡◌, ◌≢◌, ◌⊎◌, inl, inr, ℕ, ◌<◌, ◌==◌, Bool, true, false, cond, List, [], ◌∷◌, ◌++◌, None, sym, ◌∙◌, ap, subst, refl, arith}
use Rattle.std.specs.Prelude.{min}
use Rattle.hm_model.specs.declared.answer.Answer.{Answer}
use Rattle.hm_model.specs.declared.answer.Answer.TheVariants.{Reply as Replied, HalfMoved, Kept}
use Rattle.hm_model.specs.declared.entry.Call.{Call}
use Rattle.hm_model.specs.declared.entry.Call.TheVariants.{Allot, GiveBack, Measure, Fetch, Fill}
use Rattle.hm_model.specs.declared.entry.Reply.{Reply}
use Rattle.hm_model.specs.declared.entry.Reply.TheVariants.{Given, Freed, Usable, Bytes, Filled}
use Rattle.hm_model.proofs.Lists.{eq_same, eq_other}
use Rattle.hm_heap.specs.Calls.{freed, filled, fetched, copying, allotted, measured}
use Rattle.hm_heap.specs.Plans.{Plan, Done, Part}
use Rattle.hm_laws.specs.Moves.{Copies, CopiesFirst, StopsBy}
use Rattle.hm_stats.specs.Tallies.{is_given}
use Rattle.hm_laws.specs.Replies.{is_usable}
use Rattle.hm_laws.specs.Steps.{Added, calls_in}
use Rattle.hm_laws.proofs.Adding.{Runs}

-- calls with their replies
abbrev Calls : Type 0
Calls = List (Call × Reply)

one_more : (x : Added) (call : Call) (reply : Reply) (rest : Calls) → x.entry.call ≡ call → x.entry.reply ≡ reply
    → ◌≡◌ {A = Calls} ((x.entry.call, x.entry.reply) ∷ rest) ((call, reply) ∷ rest)
one_more x call reply rest call_is reply_is = λ i. (call_is i, reply_is i) ∷ rest

-- ---- the end of a move
-- so many bytes go on to a new block: it moved, or stopped half way
abbrev pub Ends : ℕ → ℕ → ℕ → ℕ → Calls → Answer → Type 0
Ends a new usable count calls x = ((x ≡ Replied (Given new usable)) × CopiesFirst a new count Freed calls)
    ⊎ ((cause : Reply) × (x ≡ HalfMoved new usable cause) × StopsBy a new cause count calls)

-- of the block at a, whose region stands at home, and a new one, whose region stands at index
module _ (home index a asked new usable : ℕ) where
  abbrev EndsAs : ℕ → Calls → Answer → Type 0
  EndsAs count calls x = Ends a new usable count calls x

  abbrev freed_at : Reply → Plan
  freed_at reply = freed (record { source = record { home = home; index = index; addr = a; asked = asked }; new = new; usable = usable }) reply

  abbrev freeing_at : Plan
  freeing_at = Part home (GiveBack a None) freed_at

  abbrev filled_at : Reply → Plan
  filled_at reply = filled (record { source = record { home = home; index = index; addr = a; asked = asked }; new = new; usable = usable }) reply

  abbrev fetched_at : Reply → Plan
  fetched_at reply = fetched (record { source = record { home = home; index = index; addr = a; asked = asked }; new = new; usable = usable }) reply

  abbrev copying_at : ℕ → Plan
  copying_at count = copying (record { source = record { home = home; index = index; addr = a; asked = asked }; new = new; usable = usable }) count

  -- once these calls have copied, the old block is freed
  freed_ends : (count : ℕ) (before : Calls) (added : List Added) (x : Answer) → Copies a new count before
      → Runs freeing_at added x → EndsAs count (before ++ calls_in added) x
  freed_ends count before [] x copies h = absurd h
  freed_ends count before (y ∷ ys) x copies h = by y.entry.reply ys refl h.2
    where
      last : (reply : Reply) → y.entry.reply ≡ reply → before ++ calls_in (y ∷ []) ≡ before ++ (GiveBack a None, reply) ∷ []
      last reply is = ap (λ (l : Calls). before ++ l) (one_more y (GiveBack a None) reply [] h.1 is)

      first : (reply : Reply) → y.entry.reply ≡ reply → CopiesFirst a new count reply (before ++ calls_in (y ∷ []))
      first reply is = record { copying = before; copies = copies; calls_are = last reply is }

      by : (reply : Reply) (ys : List Added) → y.entry.reply ≡ reply → Runs (freed_at reply) ys x → EndsAs count (before ++ calls_in (y ∷ ys)) x
      by Freed [] is e = inl (e, first Freed is)
      by Freed (z ∷ zs) is e = absurd e
      by reply [] is e = inr (reply, e, inl (refl, first reply is))
      by reply (z ∷ zs) is e = absurd e

  -- the bytes were fetched, and the new block is filled
  filled_ends : (count : ℕ) (runs : List (ℕ × ℕ)) (added : List Added) (x : Answer) → 0 < count
      → Runs (Part index (Fill new runs) filled_at) added x → EndsAs count ((Fetch a count, Bytes runs) ∷ calls_in added) x
  filled_ends count runs [] x some h = absurd h
  filled_ends count runs (y ∷ ys) x some h = by y.entry.reply ys refl h.2
    where
      with_first : (reply : Reply) (rest : Calls) → y.entry.reply ≡ reply
          → ◌≡◌ {A = Calls} ((Fetch a count, Bytes runs) ∷ (y.entry.call, y.entry.reply) ∷ rest)
          ((Fetch a count, Bytes runs) ∷ (Fill new runs, reply) ∷ rest)
      with_first reply rest is = ap (λ (l : Calls). (Fetch a count, Bytes runs) ∷ l) (one_more y (Fill new runs) reply rest h.1 is)

      by : (reply : Reply) (ys : List Added) → y.entry.reply ≡ reply → Runs (filled_at reply) ys x
          → EndsAs count ((Fetch a count, Bytes runs) ∷ calls_in (y ∷ ys)) x
      by Filled ys is e =
          subst (λ (l : Calls). EndsAs count l x) (sym (with_first Filled (calls_in ys) is))
          (freed_ends count ((Fetch a count, Bytes runs) ∷ (Fill new runs, Filled) ∷ []) ys x (inr (runs, refl)) e)
      by reply [] is e = inr (reply, e, inr (inl (refl, some, runs, with_first reply [] is)))
      by reply (z ∷ zs) is e = absurd e

  -- so many bytes are copied
  pub copy_ends : (count : ℕ) (added : List Added) (x : Answer) → Runs (copying_at count) added x → EndsAs count (calls_in added) x
  copy_ends count added x h = by (count == 0) refl added h
    where
      some : (n : ℕ) → n ≢ 0 → 0 < n
      some n ne = omega (arith, ne)

      fetch : (y : Added) (ys : List Added) (reply : Reply) → 0 < count → y.entry.call ≡ Fetch a count → y.entry.reply ≡ reply
          → Runs (fetched_at reply) ys x → EndsAs count (calls_in (y ∷ ys)) x
      fetch y ys (Bytes runs) lt call is e =
          subst (λ (l : Calls). EndsAs count l x) (sym (one_more y (Fetch a count) (Bytes runs) (calls_in ys) call is))
          (filled_ends count runs ys x lt e)
      fetch y [] reply lt call is e = inr (reply, e, inr (inr (refl, lt, one_more y (Fetch a count) reply [] call is)))
      fetch y (z ∷ zs) reply lt call is e = absurd e

      by : (b : Bool) → (count == 0) ≡ b → (added : List Added)
          → Runs (cond b freeing_at (Part home (Fetch a count) fetched_at)) added x → EndsAs count (calls_in added) x
      by true t added e = freed_ends count [] added x (inl (eq_same count 0 t, refl)) e
      by false t [] e = absurd e
      by false t (y ∷ ys) e = fetch y ys y.entry.reply (some count (eq_other count 0 t)) e.1 refl e.2

-- ---- the whole
-- a block of this address was asked to have another size: it was kept, not measured, given none, or went on to a new one
abbrev pub Resized : ℕ → ℕ → Calls → Answer → Type 0
Resized a size calls x =
    ((old : ℕ) × (x ≡ Kept a old) × (calls ≡ (Measure a, Usable old) ∷ []))
    ⊎ ((reply : Reply) × (x ≡ Replied reply) × (is_usable reply ≡ false) × (calls ≡ (Measure a, reply) ∷ []))
    ⊎ ((reply : Reply) × (x ≡ Replied reply) × (is_given reply ≡ false) × (old : ℕ) × (calls ≡ (Measure a, Usable old) ∷ (Allot size 1, reply) ∷ []))
    ⊎ ((old : ℕ) × (new : ℕ) × (usable : ℕ) × (rest : Calls) × (calls ≡ (Measure a, Usable old) ∷ (Allot size 1, Given new usable) ∷ rest) × Ends a new usable (min old size) rest x)

pub resized : (home index a asked : ℕ) (keeps : ℕ → Bool) (added : List Added) (x : Answer)
    → Runs (Part home (Measure a) (measured (record { home = home; index = index; addr = a; asked = asked }) keeps)) added x
    → Resized a asked (calls_in added) x
resized home index a asked keeps [] x h = absurd h
resized home index a asked keeps (y ∷ ys) x h = by y.entry.reply ys refl h.2
  where
    with_first : (reply : Reply) (rest : Calls) → y.entry.reply ≡ reply → ◌≡◌ {A = Calls} ((y.entry.call, y.entry.reply) ∷ rest) ((Measure a, reply) ∷ rest)
    with_first reply rest is = one_more y (Measure a) reply rest h.1 is

    given : (old : ℕ) (z : Added) (zs : List Added) (reply : Reply) → y.entry.reply ≡ Usable old → z.entry.call ≡ Allot asked 1 → z.entry.reply ≡ reply
        → Runs (allotted (record { home = home; index = index; addr = a; asked = asked }) (min old asked) reply) zs x → Resized a asked (calls_in (y ∷ z ∷ zs)) x
    given old z zs (Given new usable) is call reply_is e = inr (inr (inr (
      old,
      new,
      usable,
      calls_in zs,
      with_first (Usable old) (calls_in (z ∷ zs)) is ∙ ap (λ (l : Calls). (Measure a, Usable old) ∷ l) (one_more z (Allot asked 1) (Given new usable) (calls_in zs) call reply_is),
      copy_ends home index a asked new usable (min old asked) zs x e,
    )))
    given old z [] reply is call reply_is e = inr (inr (inl (
      reply,
      e,
      refl,
      old,
      with_first (Usable old) (calls_in (z ∷ [])) is ∙ ap (λ (l : Calls). (Measure a, Usable old) ∷ l) (one_more z (Allot asked 1) reply [] call reply_is),
    )))
    given old z (w ∷ ws) reply is call reply_is e = absurd e

    kept : (old : ℕ) (b : Bool) (ys : List Added) → y.entry.reply ≡ Usable old
        → Runs (cond b (Done (Kept a old)) (Part index (Allot asked 1) (allotted (record { home = home; index = index; addr = a; asked = asked }) (min old asked)))) ys x → Resized a asked (calls_in (y ∷ ys)) x
    kept old true [] is e = inl (old, e, with_first (Usable old) [] is)
    kept old true (z ∷ zs) is e = absurd e
    kept old false [] is e = absurd e
    kept old false (z ∷ zs) is e = given old z zs z.entry.reply is e.1 refl e.2

    by : (reply : Reply) (ys : List Added) → y.entry.reply ≡ reply → Runs (measured (record { home = home; index = index; addr = a; asked = asked }) keeps reply) ys x → Resized a asked (calls_in (y ∷ ys)) x
    by (Usable old) ys is e = kept old (keeps old) ys is e
    by reply [] is e = inr (inl (reply, e, refl, with_first reply [] is))
    by reply (z ∷ zs) is e = absurd e
