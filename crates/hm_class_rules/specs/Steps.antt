-- How an entry changes the state.
use Rattle.std.specs.Prelude.{ℕ, List, [], ◌∷◌, ◌++◌, Option, Some, None, if◌then◌else◌, unwrap_or}
use Rattle.hm_model.specs.declared.entry.Entry.{Entry}
use Rattle.hm_model.specs.declared.entry.Call.{Call}
use Rattle.hm_model.specs.declared.entry.Call.TheVariants.{Allot, GiveBack, Fill}
use Rattle.hm_model.specs.declared.entry.Reply.{Reply}
use Rattle.hm_model.specs.declared.entry.Reply.TheVariants.{Given, Overwritten, Freed, Filled}
use Rattle.hm_model.specs.declared.entry.Choices.{Choices}
use Rattle.hm_model.specs.Maps.{put, removed, without}
use Rattle.hm_class_rules.specs.State.{State, Slab}
use Rattle.hm_sizes.specs.Shapes.{slab_at, after, has_bytes, usable}
use Rattle.hm_class_rules.specs.Bytes.{write, set_canary}
use Rattle.hm_model.specs.Runs.{expand}
use Rattle.hm_base.specs.Lists.{zeros}
use Rattle.hm_sizes.specs.declared.shape.Shape.{Shape}

-- ---- allotting
-- a slab was taken from those that are shut, or a fresh one
abbrev pub taken_new : Shape → List ℕ → State → State
taken_new p [] s = record s { next = after p s.next }
taken_new p (m ∷ ms) s = record s { shut = ms }

abbrev pub new_slab : Shape → ℕ → Slab
new_slab p k = record { bytes = if has_bytes p then zeros p.slab else []; canary = k }

abbrev pub opened : Shape → Option ℕ → Option ℕ → State → State
opened p None canary s = s
opened p (Some n) canary s = record (taken_new p s.shut s) { opens = put n (new_slab p (unwrap_or canary 0)) s.opens }

abbrev pub gives : Shape → ℕ → ℕ → State → State
gives p a asked s = record (set_canary p a s) { live = put a asked s.live; given = a ∷ s.given }

abbrev pub condemns : ℕ → State → State
condemns a s = record s { condemned = a ∷ s.condemned }

-- ---- giving back
abbrev pub takes_back : Shape → ℕ → State → State
takes_back p a s = record (write p a (zeros (usable p)) s) {
  live = removed a s.live;
  frees = a ∷ s.frees;
  quarantined = a ∷ s.quarantined;
}

abbrev pub releases : Option ℕ → State → State
releases None s = s
releases (Some b) s = record s { quarantined = without b s.quarantined }

abbrev pub unparks : Option ℕ → State → State
unparks None s = s
unparks (Some u) s = record s { parked = without u s.parked; shut = s.shut ++ u ∷ [] }

abbrev pub retires : Option ℕ → State → State
retires None s = s
retires (Some m) s = record s { opens = removed m s.opens; parked = m ∷ s.parked }

abbrev pub purges : Shape → Option ℕ → State → State
purges p None s = s
purges p (Some m) s = write p (slab_at p m) (zeros p.slab) s

-- ---- an entry
abbrev pub changed : Shape → Choices → Call → Reply → State → State
changed p c (Allot asked align) (Given a usable) s = gives p a asked (opened p c.opened c.canary s)
changed p c (Allot asked align) (Overwritten a place found) s = condemns a (opened p c.opened c.canary s)
changed p c (GiveBack a stated) Freed s =
    purges p c.purged (retires c.retired (unparks c.unparked (releases c.released (takes_back p a s))))
changed p c (Fill a runs) Filled s = write p a (expand runs) s
changed p c call reply s = s

abbrev pub step : Shape → State → Entry → State
step p s e = record (changed p e.choices e.call e.reply s) { faults = e.faults_after }
