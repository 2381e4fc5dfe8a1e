use Rattle.std.proofs.Common.{◌≡◌, ◌++◌, drop}
use Rattle.std.specs.List.{flat_map}
use Rattle.hm_trace.specs.Spelling.{script_lines, lines_text}
use Rattle.hm_trace.proofs.writing.push_scripts.Given as goal

abbrev pub invariant-loop-script : goal.invariant-loop-script
invariant-loop-script l =
    l.out.items ++ lines_text (flat_map script_lines (drop l.script-index l.scripts))
    ≡ l.fn.out.items ++ lines_text (flat_map script_lines l.scripts)
