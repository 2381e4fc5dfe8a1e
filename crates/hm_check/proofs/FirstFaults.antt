-- The verdict is No exactly where some journal begins with the lines before one, and with that line none of some kind.
use Rattle.std.proofs.Common.{◌≡◌, inl, inr, ⊎_elim, ℕ, suc, ◌+◌, ◌==◌, ◌≤◌, List, [], ◌∷◌, ◌++◌, take, drop, length, append-nil, append_assoc, refl, sym, ◌∙◌, ap, subst, arith}
use Rattle.std.specs.List.{join_with_byte}
use Rattle.std.proofs.lemmas.List.{append_cancel_right, length-append, length-drop, length-take-le, take-append-drop}
use Rattle.std.proofs.lemmas.List.Splits.{join_with_byte-slice_split, length-slice_split}
use Rattle.hm_sizes.specs.Configs.{IsValid}
use Rattle.hm_sizes.specs.declared.config.Config.{Config}
use Rattle.hm_heap.specs.declared.close.History.{History}
use Rattle.hm_check.specs.declared.verdict.JournalFault.{JournalFault}
use Rattle.hm_check.specs.declared.verdict.JournalFault.TheVariants.{BadText, NotLegal, NotDrawn}
use Rattle.hm_check.specs.declared.verdict.Verdict.TheVariants.{Yes, No}
use Rattle.hm_check.specs.FirstFaults.{AnyHistory, BeginsSome, HasLines, IsAnyJournal, IsDrawnPart, IsFaultAt, IsFirstFault, IsJournalWith, IsLawfulJournal, IsLegalPart, NoIsFirstFault, NoneGoesOn, first_lines, with_feed}
use Rattle.hm_check.specs.Readers.{Stage, AtHeader, AtConfig, AtSeed, AtRegion, AtEntry, Ended, Said, Reader, line_of, read, said_words, start}
use Rattle.hm_check.specs.Verdicts.{IsDrawn, IsFault, IsLegal, IsVerdict, Judges, Says, last_verdict, lines_in}
use Rattle.hm_check.proofs.Beginnings.{IsAsked, SaysNext, any_asked, drawn_asked, lawful_with, legal_asked, next_said, one_line, said_in, said_in_lawful, said_is, same_front, same_pieces, some_begins, some_lawful, too_few, weaken}
use Rattle.hm_check.proofs.Chains.{Chain, GoodChain, IsGood, after, good_passing, no_yes, passes, passes_on, text_of}
use Rattle.hm_check.proofs.OneSaid.{one_said}
use Rattle.hm_check.proofs.OneVerdict.{one_verdict, standard_valid}
use Rattle.hm_check.proofs.Pieces.{chain_parts, first_text, lines_of_first, next_pieces, next_text, pieces_length, pieces_of, said_lines, text_on, valid_after}
use Rattle.hm_check.proofs.YesIsJournal.{yes_is_journal}

-- ---- where a verdict is No
-- what is wrong with the pieces that are left
abbrev StopsAt : Reader → List (List ℕ) → JournalFault → Type 0
StopsAt r [] fault = ⊥
StopsAt r (last ∷ []) fault = (fault ≡ BadText) × (r.stage ≡ Ended → last ≡ [] → ⊥)
StopsAt r (line ∷ next ∷ more) fault = IsFault r (with_feed line) fault

record Stops (r : Reader) (k : ℕ) (pieces : List (List ℕ)) (line : ℕ) (fault : JournalFault) : Type 0 where
  front : List Said
  rest : List (List ℕ)
  chain : GoodChain r front
  number : line ≡ k + length front
  cut : pieces ≡ pieces_of r front ++ rest
  stops : StopsAt (after r front) rest fault

same_no : (k n : ℕ) (f g : JournalFault) → No k f ≡ No n g → (k ≡ n) × (f ≡ g)
same_no k n f g e = (cc, cc)

-- the last piece: what it is called, and that it is not the end of a journal
last_no : (stage : Stage) (last : List ℕ) (k total line : ℕ) (fault : JournalFault)
    → No line fault ≡ last_verdict stage last k total
    → (line ≡ k) × (fault ≡ BadText) × (stage ≡ Ended → last ≡ [] → ⊥)
last_no Ended [] k total line fault e = absurd (no_yes total line fault (sym e))
last_no Ended (b ∷ last) k total line fault e = let s = same_no line k fault BadText e in (s.0, s.1, λ at none. cc)
last_no AtHeader last k total line fault e = let s = same_no line k fault BadText e in (s.0, s.1, λ at none. cc)
last_no AtConfig last k total line fault e = let s = same_no line k fault BadText e in (s.0, s.1, λ at none. cc)
last_no AtSeed last k total line fault e = let s = same_no line k fault BadText e in (s.0, s.1, λ at none. cc)
last_no AtRegion last k total line fault e = let s = same_no line k fault BadText e in (s.0, s.1, λ at none. cc)
last_no (AtEntry left) last k total line fault e = let s = same_no line k fault BadText e in (s.0, s.1, λ at none. cc)

no_last : (stage : Stage) (last : List ℕ) (k total : ℕ) → (stage ≡ Ended → last ≡ [] → ⊥)
    → No k BadText ≡ last_verdict stage last k total
no_last Ended [] k total early = absurd (early refl refl)
no_last Ended (b ∷ last) k total early = refl
no_last AtHeader last k total early = refl
no_last AtConfig last k total early = refl
no_last AtSeed last k total early = refl
no_last AtRegion last k total early = refl
no_last (AtEntry left) last k total early = refl

stops_of : (r : Reader) (k : ℕ) (pieces : List (List ℕ)) (line : ℕ) (fault : JournalFault)
    → Judges r k pieces (No line fault) → Stops r k pieces line fault
unfolding Judges
stops_of r k [] line fault v = absurd v
stops_of r k (last ∷ []) line fault v =
    let s = last_no r.stage last k r.total line fault v in
    record {
      front = [];
      rest = last ∷ [];
      chain = tt;
      number = s.0 ∙ omega arith;
      cut = refl;
      stops = (s.1, s.2);
    }
stops_of r k (piece ∷ next ∷ more) line fault v =
    ⊎_elim
    (λ x. let s = stops_of (read r x.0) (k + 1) (next ∷ more) line fault x.2 in
    let same : piece ≡ join_with_byte 32 (said_words r x.0) =
    append_cancel_right piece (join_with_byte 32 (said_words r x.0)) (10 ∷ []) x.1.says.is in
    record {
      front = x.0 ∷ s.front;
      rest = s.rest;
      chain = (good_passing r (piece ++ 10 ∷ []) x.0 x.1, s.chain);
      number = omega (arith, s.number);
      cut = λ i. same i ∷ s.cut i;
      stops = s.stops;
    })
    (λ x. let s = same_no line k fault x.0 x.2 in
    record {
      front = [];
      rest = piece ∷ next ∷ more;
      chain = tt;
      number = s.0 ∙ omega arith;
      cut = refl;
      stops = subst (λ (f : JournalFault). IsFault r (piece ++ 10 ∷ []) f) (sym s.1) x.1;
    })
    v

-- the pieces that are left are at fault
faulty : (r : Reader) (k : ℕ) (rest : List (List ℕ)) (fault : JournalFault) → StopsAt r rest fault
    → Judges r k rest (No k fault)
unfolding Judges
faulty r k [] fault h = absurd h
faulty r k (last ∷ []) fault h = ap (λ (f : JournalFault). No k f) h.0 ∙ no_last r.stage last k r.total h.1
faulty r k (line ∷ next ∷ more) fault h = inr (fault, h, refl)

judged_no : (front : List Said) (r : Reader) (k : ℕ) (rest : List (List ℕ)) (fault : JournalFault) → GoodChain r front
    → StopsAt (after r front) rest fault → Judges r k (pieces_of r front ++ rest) (No (k + length front) fault)
judged_no [] r k rest fault h g =
    subst (λ (n : ℕ). Judges r k rest (No n fault)) (same k) (faulty r k rest fault g)
  where
    same : (n : ℕ) → n ≡ n + 0
    same n = omega arith
judged_no (said ∷ front) r k rest fault h g =
    passes_on r k (join_with_byte 32 (said_words r said)) (pieces_of (read r said) front ++ rest)
    (No (k + suc (length front)) fault) said (passes r said h.0)
    (subst (λ (n : ℕ). Judges (read r said) (k + 1) (pieces_of (read r said) front ++ rest) (No n fault))
    (moved k (length front)) (judged_no front (read r said) (k + 1) rest fault h.1 g))
  where
    moved : (a b : ℕ) → (a + 1) + b ≡ a + suc b
    moved a b = omega arith

-- ---- a text whose first lines may be said
module _ (bytes : List ℕ) (front : List Said) (chain : GoodChain start front) (rest : List (List ℕ))
    (cut : lines_in bytes ≡ pieces_of start front ++ rest) where
  abbrev here : Reader
  here = after start front

  valid_here : IsValid here.config
  valid_here = valid_after (Unit {0}) (Unit {0}) front start standard_valid chain

  lines_count : length (lines_in bytes) ≡ length front + length rest
  lines_count = ap length cut ∙ length-append (pieces_of start front) rest
      ∙ ap (λ (n : ℕ). n + length rest) (pieces_length front start)

  -- the line behind them
  module _ (line next : List ℕ) (more : List (List ℕ)) (is : rest ≡ line ∷ next ∷ more) where
    cut_next : lines_in bytes ≡ pieces_of start front ++ line ∷ (next ∷ more)
    cut_next = cut ∙ ap (λ (l : List (List ℕ)). pieces_of start front ++ l) is

    text_next : first_lines (length front + 1) bytes ≡ text_of start front ++ with_feed line
    text_next = next_text bytes front start line (next ∷ more) cut_next

    there_next : HasLines bytes (length front + 1)
    there_next = omega (arith, lines_count, ap length is)

    -- what it says in any journal that begins so
    says_there : (L D : Type 0) (K : Config → ℕ → History → Type 0) → IsAsked L D K
        → BeginsSome (IsJournalWith K) (first_lines (length front + 1) bytes) → SaysNext L D here line
    says_there L D K asked (more_bytes, journal) =
        let s = said_in L D K asked (first_lines (length front + 1) bytes ++ more_bytes) journal in
        let all : List Said = s.0 in
        let pieces : pieces_of start all ++ [] ∷ [] ≡ pieces_of start front ++ line ∷ lines_in more_bytes =
        sym (said_lines L D all start standard_valid s.2.chain)
        ∙ ap lines_in (sym s.2.text)
        ∙ lines_of_first (length front + 1) bytes more_bytes
        ∙ ap (λ (l : List (List ℕ)). take (length front + 1) l ++ lines_in more_bytes) cut_next
        ∙ ap (λ (l : List (List ℕ)). l ++ lines_in more_bytes) (next_pieces front start line (next ∷ more))
        ∙ append_one (pieces_of start front) line (lines_in more_bytes) in
        let on = same_front (Unit {0}) (Unit {0}) L D front all start (line ∷ lines_in more_bytes) standard_valid chain
        s.2.chain (omega arith) pieces in
        next_said L D on.0 here line more_bytes
        (chain_parts L D front on.0 start (subst (λ (l : List Said). Chain L D start l) on.1 s.2.chain)).1 on.2
      where
        append_one : (xs : List (List ℕ)) (y : List ℕ) (ys : List (List ℕ)) → (xs ++ y ∷ []) ++ ys ≡ xs ++ y ∷ ys
        append_one xs y ys = append_assoc xs (y ∷ []) ys

    -- a line that says something begins some journal
    begins_there : (L D : Type 0) (K : Config → ℕ → History → Type 0) → IsAsked L D K → (said : Said)
        → IsGood L D here said → with_feed line ≡ line_of here said
        → BeginsSome (IsJournalWith K) (first_lines (length front + 1) bytes)
    begins_there L D K asked said good says =
        subst (λ (l : List ℕ). BeginsSome (IsJournalWith K) l)
        (text_on front (said ∷ []) start
        ∙ ap (λ (l : List ℕ). text_of start front ++ l) (append-nil (line_of here said) ∙ sym says)
        ∙ sym text_next)
        (some_begins L D K asked (front ++ said ∷ []) (one_line L D front said (weaken L D front start chain) good))

    one_there : (one other : Said) → Says here (with_feed line) one → Says here (with_feed line) other → one ≡ other
    one_there one other h g = one_said here (with_feed line) one other valid_here h g

    asked_good : (L D : Type 0) (said : Said) → Says here (with_feed line) said → (L → IsLegal here said)
        → (D → IsDrawn here said) → IsGood L D here said
    asked_good L D said says legal drawn = record { stands = says.stands; fits = says.fits; legal = legal; drawn = drawn }

    -- from what the line says to the journals
    fault_there : (fault : JournalFault) → IsFault here (with_feed line) fault
        → IsFaultAt bytes (length front + 1) fault
    fault_there BadText f =
        inl (there_next, λ begins. let s = says_there ⊥ ⊥ AnyHistory any_asked begins in f s.said s.says)
    fault_there NotLegal f = record {
      there = there_next;
      some = begins_there ⊥ ⊥ AnyHistory any_asked f.0 (asked_good ⊥ ⊥ f.0 f.1 (λ none. absurd none) (λ none. absurd none))
          f.1.is;
      none = λ begins.
          let s = says_there (Unit {0}) ⊥ IsLegalPart legal_asked begins in
          f.2 (subst (λ (said : Said). IsLegal here said) (one_there s.said f.0 s.says f.1) (s.good.legal tt));
    }
    fault_there NotDrawn f = record {
      there = there_next;
      some = begins_there (Unit {0}) ⊥ IsLegalPart legal_asked f.0
          (asked_good (Unit {0}) ⊥ f.0 f.1 (λ asked. f.2) (λ none. absurd none)) f.1.is;
      none = λ begins.
          let s = says_there ⊥ (Unit {0}) IsDrawnPart drawn_asked begins in
          f.3 (subst (λ (said : Said). IsDrawn here said) (one_there s.said f.0 s.says f.1) (s.good.drawn tt));
    }

    -- and back
    stops_there : (fault : JournalFault) → IsFaultAt bytes (length front + 1) fault
        → IsFault here (with_feed line) fault
    stops_there BadText (inl (there, none)) = λ said says.
        none (begins_there ⊥ ⊥ AnyHistory any_asked said
        (asked_good ⊥ ⊥ said says (λ no_one. absurd no_one) (λ no_one. absurd no_one)) says.is)
    stops_there BadText (inr (missing, none)) = absurd (missing there_next)
    stops_there NotLegal f =
        let s = says_there ⊥ ⊥ AnyHistory any_asked f.some in (
          s.said,
          s.says,
          λ legal. f.none (begins_there (Unit {0}) ⊥ IsLegalPart legal_asked s.said
              (asked_good (Unit {0}) ⊥ s.said s.says (λ asked. legal) (λ none. absurd none)) s.says.is),
        )
    stops_there NotDrawn f =
        let s = says_there (Unit {0}) ⊥ IsLegalPart legal_asked f.some in (
          s.said,
          s.says,
          s.good.legal tt,
          λ drawn. f.none (begins_there ⊥ (Unit {0}) IsDrawnPart drawn_asked s.said
              (asked_good ⊥ (Unit {0}) s.said s.says (λ none. absurd none) (λ asked. drawn)) s.says.is),
        )

  -- no line feed behind them
  module _ (last : List ℕ) (is : rest ≡ last ∷ []) where
    cut_last : lines_in bytes ≡ pieces_of start front ++ last ∷ []
    cut_last = cut ∙ ap (λ (l : List (List ℕ)). pieces_of start front ++ l) is

    not_there : HasLines bytes (length front + 1) → ⊥
    not_there there = omega (arith, there, lines_count, ap length is)

    none_ended : IsAnyJournal bytes → (here.stage ≡ Ended) × (last ≡ [])
    none_ended journal =
        let s = said_in ⊥ ⊥ AnyHistory any_asked bytes journal in
        let pieces : pieces_of start s.0 ++ [] ∷ [] ≡ pieces_of start front ++ last ∷ [] =
        sym (said_lines ⊥ ⊥ s.0 start standard_valid s.2.chain) ∙ ap lines_in (sym s.2.text) ∙ cut_last in
        let on = same_front (Unit {0}) (Unit {0}) ⊥ ⊥ front s.0 start (last ∷ []) standard_valid chain s.2.chain
        (omega arith) pieces in
        let last_is : (on.0 ≡ []) × (last ≡ []) = only on.0 here on.2 in
        let whole : s.0 ≡ front = on.1 ∙ ap (λ (l : List Said). front ++ l) last_is.0 ∙ append-nil front in
        (ap (λ (l : List Said). (after start l).stage) (sym whole) ∙ s.2.ended, last_is.1)
      where
        only : (more : List Said) (r : Reader) → pieces_of r more ++ [] ∷ [] ≡ last ∷ [] → (more ≡ []) × (last ≡ [])
        only [] r e = (refl, sym (same_pieces [] last [] [] e).0)
        only (said ∷ more) r e = absurd (none_more (pieces_of (read r said) more) (same_pieces _ _ _ _ e).1)
          where
            none_more : (xs : List (List ℕ)) → xs ++ [] ∷ [] ≡ [] → ⊥
            none_more [] e = cc
            none_more (x ∷ xs) e = cc

    ended_journal : here.stage ≡ Ended → last ≡ [] → IsAnyJournal bytes
    ended_journal ended none =
        let text : bytes ≡ text_of start front =
        sym (join_with_byte-slice_split 10 bytes)
        ∙ ap (join_with_byte 10) (cut_last ∙ ap (λ (l : List ℕ). pieces_of start front ++ l ∷ []) none
        ∙ sym (said_lines (Unit {0}) (Unit {0}) front start standard_valid chain))
        ∙ join_with_byte-slice_split 10 (text_of start front) in
        said_is ⊥ ⊥ AnyHistory any_asked bytes here.total front
        (record { chain = weaken ⊥ ⊥ front start chain; ended = ended; total = refl; text = text })

    last_there : (fault : JournalFault) → IsFaultAt bytes (length front + 1) fault
        → (fault ≡ BadText) × (here.stage ≡ Ended → last ≡ [] → ⊥)
    last_there BadText (inl (there, none)) = absurd (not_there there)
    last_there BadText (inr (missing, none)) = (refl, λ ended empty. none (ended_journal ended empty))
    last_there NotLegal f = absurd (not_there f.there)
    last_there NotDrawn f = absurd (not_there f.there)

  -- ---- both ways
  to_fault : (pieces : List (List ℕ)) → rest ≡ pieces → (fault : JournalFault) → StopsAt here pieces fault
      → IsFaultAt bytes (length front + 1) fault
  to_fault [] is fault h = absurd h
  to_fault (last ∷ []) is fault h = subst (λ (f : JournalFault). IsFaultAt bytes (length front + 1) f) (sym h.0)
      (inr (not_there last is, λ journal. let e = none_ended last is journal in h.1 e.0 e.1))
  to_fault (line ∷ next ∷ more) is fault h = fault_there line next more is fault h

  to_stop : (pieces : List (List ℕ)) → rest ≡ pieces → 1 ≤ length pieces → (fault : JournalFault)
      → IsFaultAt bytes (length front + 1) fault → StopsAt here pieces fault
  to_stop [] is some fault h = absurd (omega (arith, some))
  to_stop (last ∷ []) is some fault h = last_there last is fault h
  to_stop (line ∷ next ∷ more) is some fault h = stops_there line next more is fault h

-- ---- from the verdict
some_left : (r : Reader) (rest : List (List ℕ)) (fault : JournalFault) → StopsAt r rest fault → 1 ≤ length rest
some_left r [] fault h = absurd h
some_left r (last ∷ []) fault h = omega arith
some_left r (line ∷ next ∷ more) fault h = omega arith

no_to_fault : (bytes : List ℕ) (line : ℕ) (fault : JournalFault) → IsVerdict bytes (No line fault)
    → IsFirstFault bytes line fault
no_to_fault bytes line fault v =
    let s = stops_of start 1 (lines_in bytes) line fault v in
    let number : line ≡ length s.front + 1 = s.number ∙ omega arith in
    record {
      before = length s.front;
      number = number;
      there = omega (arith, lines_count bytes s.front s.chain s.rest s.cut, some_left (after start s.front) s.rest fault s.stops);
      good = subst (λ (l : List ℕ). BeginsSome IsLawfulJournal l) (sym (first_text bytes s.front start s.rest s.cut))
          (some_lawful s.front s.chain);
      holds = subst (λ (n : ℕ). IsFaultAt bytes n fault) (sym number)
          (to_fault bytes s.front s.chain s.rest s.cut s.rest refl fault s.stops);
    }

-- ---- to the verdict
-- the first lines of what is said
record SaysFirst (r : Reader) (pieces : List (List ℕ)) (all : List Said) : Type 0 where
  front : List Said
  more : List Said
  all_is : all ≡ front ++ more
  pieces_are : pieces_of r front ≡ pieces

says_first : (pieces : List (List ℕ)) (all : List Said) (r : Reader) (rest : List (List ℕ)) → 1 ≤ length rest
    → pieces_of r all ++ [] ∷ [] ≡ pieces ++ rest → SaysFirst r pieces all
says_first [] all r rest some e = record { front = []; more = all; all_is = refl; pieces_are = refl }
says_first (piece ∷ pieces) [] r rest some e = absurd (too_few piece pieces rest e some)
says_first (piece ∷ pieces) (said ∷ all) r rest some e =
    let both = same_pieces _ _ _ _ e in
    let next = says_first pieces all (read r said) rest some both.1 in
    record {
      front = said ∷ next.front;
      more = next.more;
      all_is = ap (λ (l : List Said). said ∷ l) next.all_is;
      pieces_are = λ i. both.0 i ∷ next.pieces_are i;
    }

fault_to_no : (bytes : List ℕ) (line : ℕ) (fault : JournalFault) → IsFirstFault bytes line fault
    → IsVerdict bytes (No line fault)
fault_to_no bytes line fault f =
    let all_pieces : List (List ℕ) = lines_in bytes in
    let journal : List ℕ = first_lines f.before bytes ++ f.good.0 in
    let s = said_in_lawful journal f.good.1 in
    let pieces : pieces_of start s.0 ++ [] ∷ [] ≡ take f.before all_pieces ++ lines_in f.good.0 =
    sym (said_lines (Unit {0}) (Unit {0}) s.0 start standard_valid s.2.chain) ∙ ap lines_in (sym s.2.text)
    ∙ lines_of_first f.before bytes f.good.0 in
    let first = says_first (take f.before all_pieces) s.0 start (lines_in f.good.0)
    (omega (arith, length-slice_split (λ (b : ℕ). b == 10) f.good.0)) pieces in
    let front : List Said = first.front in
    let chain : GoodChain start front =
    (chain_parts (Unit {0}) (Unit {0}) front first.more start
    (subst (λ (l : List Said). GoodChain start l) first.all_is s.2.chain)).0 in
    let rest : List (List ℕ) = drop f.before all_pieces in
    let cut : all_pieces ≡ pieces_of start front ++ rest =
    sym (take-append-drop f.before all_pieces) ∙ ap (λ (l : List (List ℕ)). l ++ rest) (sym first.pieces_are) in
    let few : f.before ≤ length all_pieces = omega (arith, f.there) in
    let count : length front ≡ f.before =
    sym (pieces_length front start) ∙ ap length first.pieces_are ∙ length-take-le f.before all_pieces few in
    let some : 1 ≤ length rest = omega (arith, length-drop f.before all_pieces, f.there) in
    let number : line ≡ length front + 1 = omega (arith, f.number, count) in
    let stops : StopsAt (after start front) rest fault =
    to_stop bytes front chain rest cut rest refl some fault
    (subst (λ (n : ℕ). IsFaultAt bytes n fault) number f.holds) in
    subst (λ (n : ℕ). IsVerdict bytes (No n fault)) (turned (length front) ∙ sym number)
    (subst (λ (l : List (List ℕ)). Judges start 1 l (No (1 + length front) fault)) (sym cut)
    (judged_no front start 1 rest fault chain stops))
  where
    turned : (n : ℕ) → 1 + n ≡ n + 1
    turned n = omega arith

pub no_is_first_fault : NoIsFirstFault
no_is_first_fault bytes line fault = (no_to_fault bytes line fault, fault_to_no bytes line fault)

-- ---- no journal of legal and drawn histories goes on
lawful_begins : (L D : Type 0) (K : Config → ℕ → History → Type 0) → IsAsked L D K → (bytes : List ℕ)
    → BeginsSome IsLawfulJournal bytes → BeginsSome (IsJournalWith K) bytes
lawful_begins L D K asked bytes (rest, journal) = (rest, lawful_with L D K asked (bytes ++ rest) journal)

none_begins : (bytes : List ℕ) (line : ℕ) (fault : JournalFault) → IsFaultAt bytes line fault → HasLines bytes line
    → BeginsSome IsLawfulJournal (first_lines line bytes) → ⊥
none_begins bytes line BadText (inl (there, none)) has begins =
    none (lawful_begins ⊥ ⊥ AnyHistory any_asked (first_lines line bytes) begins)
none_begins bytes line BadText (inr (missing, none)) has begins = missing has
none_begins bytes line NotLegal f has begins =
    f.none (lawful_begins (Unit {0}) ⊥ IsLegalPart legal_asked (first_lines line bytes) begins)
none_begins bytes line NotDrawn f has begins =
    f.none (lawful_begins ⊥ (Unit {0}) IsDrawnPart drawn_asked (first_lines line bytes) begins)

pub none_goes_on : NoneGoesOn
none_goes_on bytes line fault v = (
  none_begins bytes line fault (no_to_fault bytes line fault v).holds,
  λ (entries, c, n, hs, journal).
      no_yes entries line fault (one_verdict bytes (Yes entries) (No line fault)
      ((yes_is_journal bytes entries).1 (c, n, hs, journal)) v),
)
