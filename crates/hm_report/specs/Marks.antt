-- Which texts of a report are those of findings, by how they begin.
use Rattle.std.specs.Prelude.{◌≡◌, ℕ, ◌==◌, Bool, true, false, not, ◌&&◌, if◌then◌else◌, List, [], ◌∷◌, codes}
use Rattle.std.specs.List.{list_all, list_any, slice_split}
use Rattle.hm_report.specs.declared.notes.RoundNotes.{RoundNotes}
use Rattle.hm_report.specs.declared.results.Results.{Results}
use Rattle.hm_report.specs.Findings.{has_finding}
use Rattle.hm_report.specs.Text.{report_text}

-- how the texts of findings begin
abbrev pub marks : List (List ℕ)
marks =
    codes "overwritten at" ∷ codes "no slot" ∷ codes "unused" ∷ codes "double free" ∷ codes "not live"
    ∷ codes "outside" ∷ codes "wrong size" ∷ codes "canary at" ∷ codes "trap at" ∷ codes "half moved" ∷ []

-- the text begins with these bytes
abbrev pub begins_with : List ℕ → List ℕ → Bool
begins_with text [] = true
begins_with [] (c ∷ cs) = false
begins_with (b ∷ bs) (c ∷ cs) = (b == c) && begins_with bs cs

abbrev pub is_marked : List ℕ → Bool
is_marked text = list_any (λ mark. begins_with text mark) marks

-- what stands behind the first space of a line
abbrev pub behind_space : List ℕ → List ℕ
behind_space [] = []
behind_space (b ∷ bs) = if b == 32 then bs else behind_space bs

-- some line of the text is that of a finding: what stands behind its first space is marked
abbrev pub tells_finding : List ℕ → Bool
tells_finding text = list_any (λ line. is_marked (behind_space line)) (slice_split (λ b. b == 10) text)

-- no line feed is among the bytes
abbrev pub is_one_line : List ℕ → Bool
is_one_line bytes = list_all (λ b. not (b == 10)) bytes

abbrev pub are_lines : List RoundNotes → Bool
are_lines rounds = list_all (λ (round : RoundNotes). list_all is_one_line round.notes) rounds

-- ---- law
-- a report tells a finding exactly where an answer is one
abbrev pub FindingsShow : Type 0
FindingsShow = (notes : List RoundNotes) (results : List Results)
    → are_lines notes ≡ true → tells_finding (report_text notes results) ≡ has_finding results
