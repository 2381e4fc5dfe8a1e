-- The runs of an entry, which keep the rules of runs: of given bytes there is one list of runs.
pub use Rattle.hm_model.specs.Typed.{EntryRuns}
