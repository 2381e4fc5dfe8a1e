-- Entries with a reply that their call never has.
use Rattle.std.proofs.Common.{◌≡◌, ℕ, List, Option, refl}
use Rattle.hm_model.specs.declared.entry.Entry.{Entry}
use Rattle.hm_model.specs.declared.entry.Call.{Call}
use Rattle.hm_model.specs.declared.entry.Call.TheVariants.{Allot, GiveBack, Measure, Fetch, Fill}
use Rattle.hm_model.specs.declared.entry.Reply.{Reply}
use Rattle.hm_model.specs.declared.entry.Reply.TheVariants.{Given, NoSpace, PagesFailed, Freed, WrongSize, NotLive, Usable, Bytes, Filled, Trap}
use Rattle.hm_large_rules.specs.State.{State}
use Rattle.hm_large_rules.specs.Rules.{Terms, Allows}
use Rattle.hm_model.specs.declared.judgement.Judgement.TheVariants.{NotLegal}
use Rattle.hm_large_book.specs.declared.book.LargeBook.{LargeBook}
use Rattle.hm_large_book.specs.Judged.{terms_of, Judges}

module _ (t : Terms) (s : State) (e : Entry) where
  allot_none : (asked align : ℕ) (r : Reply) → ((a u : ℕ) → r ≡ Given a u → ⊥) → (r ≡ NoSpace → ⊥) → (r ≡ PagesFailed → ⊥) → Allows t s e (Allot asked align) r → ⊥
  allot_none asked align (Given a u) g n p al = g a u refl
  allot_none asked align NoSpace g n p al = n refl
  allot_none asked align PagesFailed g n p al = p refl
  allot_none asked align r g n p al = al

  free_none : (a : ℕ) (stated : Option ℕ) (r : Reply) → (r ≡ NotLive → ⊥) → ((b o : ℕ) → r ≡ WrongSize b o → ⊥) → (r ≡ PagesFailed → ⊥) → (r ≡ Freed → ⊥) → Allows t s e (GiveBack a stated) r → ⊥
  free_none a stated NotLive n w p f al = n refl
  free_none a stated (WrongSize b o) n w p f al = w b o refl
  free_none a stated PagesFailed n w p f al = p refl
  free_none a stated Freed n w p f al = f refl
  free_none a stated r n w p f al = al

  measure_none : (a : ℕ) (r : Reply) → (r ≡ NotLive → ⊥) → ((size : ℕ) → r ≡ Usable size → ⊥) → Allows t s e (Measure a) r → ⊥
  measure_none a NotLive n u al = n refl
  measure_none a (Usable size) n u al = u size refl
  measure_none a r n u al = al

  fetch_none : (a len : ℕ) (r : Reply) → ((runs : List (ℕ × ℕ)) → r ≡ Bytes runs → ⊥) → ((q : ℕ) → r ≡ Trap q → ⊥) → Allows t s e (Fetch a len) r → ⊥
  fetch_none a len (Bytes runs) b q al = b runs refl
  fetch_none a len (Trap p) b q al = q p refl
  fetch_none a len r b q al = al

  fill_none : (a : ℕ) (runs : List (ℕ × ℕ)) (r : Reply) → (r ≡ Filled → ⊥) → ((q : ℕ) → r ≡ Trap q → ⊥) → Allows t s e (Fill a runs) r → ⊥
  fill_none a runs Filled f q al = f refl
  fill_none a runs (Trap p) f q al = q p refl
  fill_none a runs r f q al = al

refused : (k : LargeBook) (e : Entry) (call : Call) (r : Reply) → ((s : State) → Allows (terms_of k.config) s e call r → ⊥) → Judges k e call r k NotLegal
refused k e call r none = record { judged = λ s st. none s; config_same = refl; seed_same = refl }

module _ (k : LargeBook) (e : Entry) (r : Reply) where
  pub allot_refused : (asked align : ℕ) → ((a u : ℕ) → r ≡ Given a u → ⊥) → (r ≡ NoSpace → ⊥) → (r ≡ PagesFailed → ⊥) → Judges k e (Allot asked align) r k NotLegal
  allot_refused asked align g n p = refused k e (Allot asked align) r (λ s. allot_none (terms_of k.config) s e asked align r g n p)

  pub free_refused : (a : ℕ) (stated : Option ℕ) → (r ≡ NotLive → ⊥) → ((b o : ℕ) → r ≡ WrongSize b o → ⊥) → (r ≡ PagesFailed → ⊥) → (r ≡ Freed → ⊥) → Judges k e (GiveBack a stated) r k NotLegal
  free_refused a stated n w p f = refused k e (GiveBack a stated) r (λ s. free_none (terms_of k.config) s e a stated r n w p f)

  pub measure_refused : (a : ℕ) → (r ≡ NotLive → ⊥) → ((size : ℕ) → r ≡ Usable size → ⊥) → Judges k e (Measure a) r k NotLegal
  measure_refused a n u = refused k e (Measure a) r (λ s. measure_none (terms_of k.config) s e a r n u)

  pub fetch_refused : (a len : ℕ) → ((runs : List (ℕ × ℕ)) → r ≡ Bytes runs → ⊥) → ((q : ℕ) → r ≡ Trap q → ⊥) → Judges k e (Fetch a len) r k NotLegal
  fetch_refused a len b q = refused k e (Fetch a len) r (λ s. fetch_none (terms_of k.config) s e a len r b q)

  pub fill_refused : (a : ℕ) (runs : List (ℕ × ℕ)) → (r ≡ Filled → ⊥) → ((q : ℕ) → r ≡ Trap q → ⊥) → Judges k e (Fill a runs) r k NotLegal
  fill_refused a runs f q = refused k e (Fill a runs) r (λ s. fill_none (terms_of k.config) s e a runs r f q)
