-- The pieces of a text between its line feeds, and those of what is said.
use Rattle.std.proofs.Common.{◌≡◌, ℕ, zero, suc, ◌+◌, eqb, Bool, true, false, cond, List, [], ◌∷◌, ◌++◌, take, length, append_assoc, append-nil, refl, sym, ◌∙◌, ap, eq-eqb}
use Rattle.std.specs.List.{flat_map, join_with_byte, onto_first, AllByRecursion as Each}
use Rattle.std.proofs.lemmas.Grind.{flat_map-append}
use Rattle.std.proofs.lemmas.List.Elements.{All-from_recursion as from}
use Rattle.std.proofs.lemmas.List.Splits.{slice_split_at}
use Rattle.std.proofs.Math.Seq.{take-append-add, take-append_seam}
use Rattle.hm_sizes.specs.Configs.{IsValid}
use Rattle.hm_journal.proofs.LineBack.{first_line}
use Rattle.hm_journal.proofs.Splits.{Lacks}
use Rattle.hm_check.specs.FirstFaults.{first_lines, with_feed}
use Rattle.hm_check.specs.Readers.{Said, Reader, line_of, read, said_words}
use Rattle.hm_check.specs.Verdicts.{lines_in}
use Rattle.hm_check.proofs.Chains.{Chain, after, clean, text_of}
use Rattle.hm_check.proofs.OneVerdict.{stays_valid}

-- ---- pieces of a text
feeds : ℕ → Bool
feeds b = eqb b 10

onto_lacks : (b : ℕ) (pieces : List (List ℕ)) → eqb b 10 ≡ false → Each (Lacks 10) pieces
    → Each (Lacks 10) (onto_first b pieces)
onto_lacks b [] other h = ((other, tt), tt)
onto_lacks b (piece ∷ pieces) other h = ((other, h.0), h.1)

-- no line feed stands in a piece
lines_lack : (bytes : List ℕ) → Each (Lacks 10) (lines_in bytes)
lines_lack [] = (tt, tt)
lines_lack (b ∷ bytes) =
    elim (eqb b 10) as (λ x. eqb b 10 ≡ x
    → Each (Lacks 10) (cond x ([] ∷ lines_in bytes) (onto_first b (lines_in bytes)))) [
      | true ↦ λ is. (tt, lines_lack bytes)
      | false ↦ λ is. onto_lacks b (lines_in bytes) is (lines_lack bytes)
    ] refl

take_lacks : (n : ℕ) (pieces : List (List ℕ)) → Each (Lacks 10) pieces → Each (Lacks 10) (take n pieces)
take_lacks zero pieces h = tt
take_lacks (suc n) [] h = tt
take_lacks (suc n) (piece ∷ pieces) h = (h.0, take_lacks n pieces h.1)

-- pieces that are put one after another, each with its line feed, are got back
pieces_back : (pieces : List (List ℕ)) (rest : List ℕ) → Each (Lacks 10) pieces
    → lines_in (flat_map with_feed pieces ++ rest) ≡ pieces ++ lines_in rest
pieces_back [] rest h = refl
pieces_back (piece ∷ pieces) rest h =
    let more : List ℕ = flat_map with_feed pieces in
    let cut : (with_feed piece ++ more) ++ rest ≡ piece ++ 10 ∷ (more ++ rest) =
    append_assoc (with_feed piece) more rest ∙ append_assoc piece (10 ∷ []) (more ++ rest) in
    ap lines_in cut
    ∙ slice_split_at (λ (b : ℕ). eqb b 10) piece 10 (more ++ rest) (from (λ (b : ℕ). eqb b 10 ≡ false) piece h.0)
    (eq-eqb 10 10 refl)
    ∙ ap (λ (l : List (List ℕ)). piece ∷ l) (pieces_back pieces rest h.1)

-- the pieces of a text that begins with the first lines of another one
pub lines_of_first : (n : ℕ) (bytes rest : List ℕ)
    → lines_in (first_lines n bytes ++ rest) ≡ take n (lines_in bytes) ++ lines_in rest
lines_of_first n bytes rest =
    pieces_back (take n (lines_in bytes)) rest (take_lacks n (lines_in bytes) (lines_lack bytes))

-- ---- pieces of what is said
abbrev pub pieces_of : Reader → List Said → List (List ℕ)
pieces_of r [] = []
pieces_of r (said ∷ more) = join_with_byte 32 (said_words r said) ∷ pieces_of (read r said) more

pub pieces_length : (all : List Said) (r : Reader) → length (pieces_of r all) ≡ length all
pieces_length [] r = refl
pieces_length (said ∷ more) r = ap suc (pieces_length more (read r said))

pub pieces_text : (all : List Said) (r : Reader) → flat_map with_feed (pieces_of r all) ≡ text_of r all
pieces_text [] r = refl
pieces_text (said ∷ more) r = ap (λ (l : List ℕ). line_of r said ++ l) (pieces_text more (read r said))

pub said_pieces : (L D : Type 0) (all : List Said) (r : Reader) (rest : List ℕ) → IsValid r.config → Chain L D r all
    → lines_in (text_of r all ++ rest) ≡ pieces_of r all ++ lines_in rest
said_pieces L D [] r rest valid h = refl
said_pieces L D (said ∷ more) r rest valid h =
    let text : List ℕ = text_of (read r said) more in
    ap lines_in (append_assoc (line_of r said) text rest)
    ∙ first_line (said_words r said) (text ++ rest) (clean r said valid h.0.fits)
    ∙ ap (λ (l : List (List ℕ)). join_with_byte 32 (said_words r said) ∷ l)
    (said_pieces L D more (read r said) rest (stays_valid r said valid h.0.fits) h.1)

pub said_lines : (L D : Type 0) (all : List Said) (r : Reader) → IsValid r.config → Chain L D r all
    → lines_in (text_of r all) ≡ pieces_of r all ++ [] ∷ []
said_lines L D all r valid h =
    ap lines_in (sym (append-nil (text_of r all))) ∙ said_pieces L D all r [] valid h

-- ---- the first lines of a text whose pieces are known
pub first_text : (bytes : List ℕ) (front : List Said) (r : Reader) (rest : List (List ℕ))
    → lines_in bytes ≡ pieces_of r front ++ rest → first_lines (length front) bytes ≡ text_of r front
first_text bytes front r rest cut =
    ap (λ (n : ℕ). flat_map with_feed (take n (lines_in bytes))) (sym (pieces_length front r))
    ∙ ap (λ (l : List (List ℕ)). flat_map with_feed (take (length (pieces_of r front)) l)) cut
    ∙ ap (flat_map with_feed) (take-append_seam (pieces_of r front) rest)
    ∙ pieces_text front r

pub next_text : (bytes : List ℕ) (front : List Said) (r : Reader) (line : List ℕ) (rest : List (List ℕ))
    → lines_in bytes ≡ pieces_of r front ++ line ∷ rest
    → first_lines (length front + 1) bytes ≡ text_of r front ++ with_feed line
next_text bytes front r line rest cut =
    ap (λ (n : ℕ). flat_map with_feed (take (n + 1) (lines_in bytes))) (sym (pieces_length front r))
    ∙ ap (λ (l : List (List ℕ)). flat_map with_feed (take (length (pieces_of r front) + 1) l)) cut
    ∙ ap (flat_map with_feed) (take-append-add (pieces_of r front) (line ∷ rest) 1)
    ∙ flat_map-append with_feed (pieces_of r front) (line ∷ [])
    ∙ (λ i. pieces_text front r i ++ append-nil (with_feed line) i)

pub next_pieces : (front : List Said) (r : Reader) (line : List ℕ) (rest : List (List ℕ))
    → take (length front + 1) (pieces_of r front ++ line ∷ rest) ≡ pieces_of r front ++ line ∷ []
next_pieces front r line rest =
    ap (λ (n : ℕ). take (n + 1) (pieces_of r front ++ line ∷ rest)) (sym (pieces_length front r))
    ∙ take-append-add (pieces_of r front) (line ∷ rest) 1

-- ---- chains
pub text_on : (front more : List Said) (r : Reader) → text_of r (front ++ more) ≡ text_of r front ++ text_of (after r front) more
text_on [] more r = refl
text_on (said ∷ front) more r =
    ap (λ (l : List ℕ). line_of r said ++ l) (text_on front more (read r said))
    ∙ sym (append_assoc (line_of r said) (text_of (read r said) front) (text_of (after (read r said) front) more))

pub after_on : (front more : List Said) (r : Reader) → after r (front ++ more) ≡ after (after r front) more
after_on [] more r = refl
after_on (said ∷ front) more r = after_on front more (read r said)

pub chain_on : (L D : Type 0) (front more : List Said) (r : Reader) → Chain L D r front → Chain L D (after r front) more
    → Chain L D r (front ++ more)
chain_on L D [] more r h g = g
chain_on L D (said ∷ front) more r h g = (h.0, chain_on L D front more (read r said) h.1 g)

pub chain_parts : (L D : Type 0) (front more : List Said) (r : Reader) → Chain L D r (front ++ more)
    → Chain L D r front × Chain L D (after r front) more
chain_parts L D [] more r h = (tt, h)
chain_parts L D (said ∷ front) more r h =
    let parts = chain_parts L D front more (read r said) h.1 in ((h.0, parts.0), parts.1)

pub valid_after : (L D : Type 0) (all : List Said) (r : Reader) → IsValid r.config → Chain L D r all
    → IsValid (after r all).config
valid_after L D [] r valid h = valid
valid_after L D (said ∷ more) r valid h = valid_after L D more (read r said) (stays_valid r said valid h.0.fits) h.1
