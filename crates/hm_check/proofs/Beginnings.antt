-- Which journals begin with lines that may be said, and what the next line of such a journal says.
use Rattle.std.proofs.Common.{◌≡◌, ℕ, ◌==◌, ◌≤◌, List, [], ◌∷◌, ◌++◌, length, refl, sym, ◌∙◌, ap, subst, arith}
use Rattle.std.specs.List.{AllByRecursion as Each, join_with_byte}
use Rattle.std.proofs.lemmas.List.Elements.{All-from_recursion as from, recursion_from_All as each}
use Rattle.std.proofs.lemmas.List.Splits.{length-slice_split}
use Rattle.hm_sizes.specs.declared.config.Config.{Config}
use Rattle.hm_sizes.specs.Configs.{IsValid}
use Rattle.hm_heap.specs.declared.close.History.{History}
use Rattle.hm_journal.specs.Ranges.{HistoryFits}
use Rattle.hm_journal.proofs.Each.{each_by}
use Rattle.hm_check.specs.FirstFaults.{AnyHistory, BeginsSome, HasRuns, IsDrawnPart, IsJournalWith, IsLawfulJournal, IsLegalPart, with_feed}
use Rattle.hm_check.specs.Journals.{entry_count}
use Rattle.hm_check.specs.Readers.{Said, Reader, line_of, read, said_words, start}
use Rattle.hm_check.specs.Verdicts.{Says, lines_in}
use Rattle.hm_check.proofs.Chains.{Chain, GoodChain, IsGood, IsSaid, after, text_of}
use Rattle.hm_check.proofs.Finished.{Ends, ends_well, kept_after, kept_start}
use Rattle.hm_check.proofs.Histories.{IsPart}
use Rattle.hm_check.proofs.OneSaid.{one_said}
use Rattle.hm_check.proofs.OneVerdict.{stays_valid}
use Rattle.hm_check.proofs.Pieces.{after_on, chain_on, pieces_of, text_on}
use Rattle.hm_check.proofs.YesIsJournal.{IsJournalAsked, asked_fits, asked_of, journal_to_said, lawful_of, said_to_journal}

-- ---- journals of a kind, as journals of which something is asked
-- of a history that fits this is what is asked
pub record IsAsked (L D : Type 0) (K : Config → ℕ → History → Type 0) : Type 0 where
  pub of : (c : Config) (n : ℕ) (h : History) → IsPart L D c n h → K c n h
  pub legal : (c : Config) (n : ℕ) (h : History) → K c n h → L → IsLegalPart c n h
  pub drawn : (c : Config) (n : ℕ) (h : History) → K c n h → D → IsDrawnPart c n h

pub any_asked : IsAsked ⊥ ⊥ AnyHistory
any_asked = record {
  of = λ c n h k. tt;
  legal = λ c n h k none. absurd none;
  drawn = λ c n h k none. absurd none;
}

pub legal_asked : IsAsked (Unit {0}) ⊥ IsLegalPart
legal_asked = record {
  of = λ c n h k. k.legal tt;
  legal = λ c n h k asked. k;
  drawn = λ c n h k none. absurd none;
}

pub drawn_asked : IsAsked ⊥ (Unit {0}) IsDrawnPart
drawn_asked = record {
  of = λ c n h k. k.drawn tt;
  legal = λ c n h k none. absurd none;
  drawn = λ c n h k asked. k;
}

module _ (L D : Type 0) (K : Config → ℕ → History → Type 0) (asked : IsAsked L D K) where
  parts_in : (c : Config) (n : ℕ) (hs : List History) → Each HistoryFits hs → Each HasRuns hs → Each (K c n) hs
      → Each (IsPart L D c n) hs
  parts_in c n [] f r k = tt
  parts_in c n (h ∷ hs) f r k = (
    record { fits = f.0; runs = r.0; legal = asked.legal c n h k.0; drawn = asked.drawn c n h k.0 },
    parts_in c n hs f.1 r.1 k.1,
  )

  pub with_asked : (bytes : List ℕ) (entries : ℕ) (c : Config) (n : ℕ) (hs : List History)
      → IsJournalAsked L D bytes entries c n hs → IsJournalWith K bytes
  with_asked bytes entries c n hs h = record {
    config = c;
    number = n;
    histories = hs;
    valid = h.valid;
    fits = asked_fits L D bytes entries c n hs h;
    regions = h.regions;
    runs = from HasRuns hs (each_by (IsPart L D c n) HasRuns hs (λ k g. g.runs) h.each);
    each = from (K c n) hs (each_by (IsPart L D c n) (K c n) hs (asked.of c n) h.each);
    text = h.text;
  }

  -- what is said in it
  pub said_in : (bytes : List ℕ) → IsJournalWith K bytes
      → (all : List Said) × (n : ℕ) × IsSaid L D start bytes n all
  said_in bytes j =
      let hs : List History = j.histories in
      let said = journal_to_said L D bytes (entry_count hs) j.config j.number hs (record {
        valid = j.valid;
        seed = j.fits.seed;
        regions = j.regions;
        each = parts_in j.config j.number hs (each HistoryFits hs j.fits.histories) (each HasRuns hs j.runs)
            (each (K j.config j.number) hs j.each);
        count = refl;
        text = j.text;
      }) in
      (said.0, entry_count hs, said.1)

  -- lines that are said to the end are such a journal
  pub said_is : (bytes : List ℕ) (n : ℕ) (all : List Said) → IsSaid L D start bytes n all → IsJournalWith K bytes
  said_is bytes n all h =
      let j = said_to_journal L D bytes n all h in with_asked bytes n j.0 j.1 j.2 j.3

-- a journal of legal and drawn histories is of each kind
pub lawful_with : (L D : Type 0) (K : Config → ℕ → History → Type 0) → IsAsked L D K → (bytes : List ℕ)
    → IsLawfulJournal bytes → IsJournalWith K bytes
lawful_with L D K asked bytes (entries, c, n, hs, h) =
    with_asked L D K asked bytes entries c n hs (asked_of L D bytes entries c n hs h)

-- what is said in a journal of legal and drawn histories
pub said_in_lawful : (bytes : List ℕ) → IsLawfulJournal bytes
    → (all : List Said) × (n : ℕ) × IsSaid (Unit {0}) (Unit {0}) start bytes n all
said_in_lawful bytes (entries, c, n, hs, h) =
    let said = journal_to_said (Unit {0}) (Unit {0}) bytes entries c n hs
    (asked_of (Unit {0}) (Unit {0}) bytes entries c n hs h) in
    (said.0, entries, said.1)

-- ---- lines that may be said
-- what was said can be said on to an end
pub says_on : (L D : Type 0) (front : List Said) → Chain L D start front
    → (rest : List ℕ) × (n : ℕ) × (all : List Said) × IsSaid L D start (text_of start front ++ rest) n all
says_on L D front chain =
    let ends : Ends L D (after start front) =
    ends_well L D (after start front) (kept_after L D front start (kept_start L D) chain) in (
      text_of (after start front) ends.0,
      (after start (front ++ ends.0)).total,
      front ++ ends.0,
      record {
        chain = chain_on L D front ends.0 start chain ends.1;
        ended = ap (λ (r : Reader). r.stage) (after_on front ends.0 start) ∙ ends.2;
        total = refl;
        text = sym (text_on front ends.0 start);
      },
    )

-- some journal begins with what was said
pub some_begins : (L D : Type 0) (K : Config → ℕ → History → Type 0) → IsAsked L D K → (front : List Said)
    → Chain L D start front → BeginsSome (IsJournalWith K) (text_of start front)
some_begins L D K asked front chain =
    let on = says_on L D front chain in
    (on.0, said_is L D K asked (text_of start front ++ on.0) on.1 on.2 on.3)

pub some_lawful : (front : List Said) → GoodChain start front → BeginsSome IsLawfulJournal (text_of start front)
some_lawful front chain =
    let on = says_on (Unit {0}) (Unit {0}) front chain in
    let j = said_to_journal (Unit {0}) (Unit {0}) (text_of start front ++ on.0) on.1 on.2 on.3 in
    (on.0, (on.1, j.0, j.1, j.2, lawful_of (text_of start front ++ on.0) on.1 j.0 j.1 j.2 j.3))

-- what is legal and drawn is whatever is asked
pub weaken : (L D : Type 0) (all : List Said) (r : Reader) → GoodChain r all → Chain L D r all
weaken L D [] r h = tt
weaken L D (said ∷ more) r h = (
  record {
    stands = h.0.stands;
    fits = h.0.fits;
    legal = λ asked. h.0.legal tt;
    drawn = λ asked. h.0.drawn tt;
  },
  weaken L D more (read r said) h.1,
)

pub one_line : (L D : Type 0) (front : List Said) (said : Said) → Chain L D start front
    → IsGood L D (after start front) said → Chain L D start (front ++ said ∷ [])
one_line L D front said chain good = chain_on L D front (said ∷ []) start chain (good, tt)

-- ---- what the lines of a journal say
pub same_pieces : (x y : List ℕ) (xs ys : List (List ℕ)) → x ∷ xs ≡ y ∷ ys → (x ≡ y) × (xs ≡ ys)
same_pieces x y xs ys e = (cc, cc)

pub too_few : (x : List ℕ) (xs ys : List (List ℕ)) → [] ∷ [] ≡ x ∷ (xs ++ ys) → 1 ≤ length ys → ⊥
too_few x xs ys e some = none xs ys (same_pieces [] x [] (xs ++ ys) e).1 some
  where
    none : (xs ys : List (List ℕ)) → [] ≡ xs ++ ys → 1 ≤ length ys → ⊥
    none [] [] e some = omega (arith, some)
    none [] (y ∷ ys) e some = cc
    none (x ∷ xs) ys e some = cc

-- two lists of what is said whose lines begin alike begin alike
pub same_front : (L D M E : Type 0) (front all : List Said) (r : Reader) (rest : List (List ℕ)) → IsValid r.config
    → Chain L D r front → Chain M E r all → 1 ≤ length rest → pieces_of r all ++ [] ∷ [] ≡ pieces_of r front ++ rest
    → (more : List Said) × (all ≡ front ++ more) × (pieces_of (after r front) more ++ [] ∷ [] ≡ rest)
same_front L D M E [] all r rest valid h g some e = (all, refl, e)
same_front L D M E (said ∷ front) [] r rest valid h g some e =
    absurd (too_few (join_with_byte 32 (said_words r said)) (pieces_of (read r said) front) rest e some)
same_front L D M E (said ∷ front) (other ∷ all) r rest valid h g some e =
    let both = same_pieces _ _ _ _ e in
    let line : line_of r other ≡ line_of r said = ap with_feed both.0 in
    let same : other ≡ said = one_said r (line_of r other) other said valid
    (record { stands = g.0.stands; fits = g.0.fits; is = refl })
    (record { stands = h.0.stands; fits = h.0.fits; is = line }) in
    let next = same_front L D M E front all (read r said) rest (stays_valid r said valid h.0.fits) h.1
    (subst (λ (s : Said). Chain M E (read r s) all) same g.1) some
    (subst (λ (s : Said). pieces_of (read r s) all ++ [] ∷ [] ≡ pieces_of (read r said) front ++ rest) same both.1) in
    (next.0, λ i. same i ∷ next.1 i, next.2)

-- what the line behind a front says
pub record SaysNext (L D : Type 0) (r : Reader) (line : List ℕ) : Type 0 where
  pub said : Said
  pub good : IsGood L D r said
  pub says : Says r (with_feed line) said

none_left : (line : List ℕ) (rest : List ℕ) → [] ∷ [] ≡ line ∷ lines_in rest → ⊥
none_left line rest e =
    too_few line [] (lines_in rest) e (omega (arith, length-slice_split (λ (b : ℕ). b == 10) rest))

pub next_said : (L D : Type 0) (more : List Said) (r : Reader) (line rest : List ℕ) → Chain L D r more
    → pieces_of r more ++ [] ∷ [] ≡ line ∷ lines_in rest → SaysNext L D r line
next_said L D [] r line rest h e = absurd (none_left line rest e)
next_said L D (said ∷ more) r line rest h e = record {
  said = said;
  good = h.0;
  says = record {
    stands = h.0.stands;
    fits = h.0.fits;
    is = ap with_feed (sym (same_pieces _ _ _ _ e).0);
  };
}
