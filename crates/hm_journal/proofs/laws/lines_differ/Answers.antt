use Rattle.hm_journal.proofs.OneLine.{closed_lines, config_lines, entry_lines, region_lines, seed_lines}
use Rattle.hm_journal.proofs.laws.lines_differ.Goals as goal

pub returns : goal.returns
returns c = record {
  entries = entry_lines;
  configs = config_lines;
  seeds = seed_lines;
  regions = region_lines;
  closed = closed_lines;
}
