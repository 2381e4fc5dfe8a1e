use Rattle.hm_replay.proofs.Keeping.{are_rooms, is_set, others_stay, sure}
use Rattle.hm_replay.proofs.rooms.put.Goals as goal

pub returns-clause-kept : goal.returns-clause-kept
returns-clause-kept c =
    let es = c.args.rooms.now.entries in
    let fs = c.insert.new.self.entries in
    let n = c.args.left.now in
    record {
      rooms = λ rooms.
          are_rooms es fs n.name n.address c.insert.result (λ u. u.0) c.insert.ensures.updates c.insert.ensures.err
          c.insert.ensures.ordered rooms n.reach;
      others =
          others_stay es fs n.name n.address
          (sure es fs n.name n.address c.insert.result c.insert.ensures.absent c.requires.room c.insert.ensures.updates).0;
    }

pub returns-clause-value : goal.returns-clause-value
returns-clause-value c =
    let es = c.args.rooms.now.entries in
    let fs = c.insert.new.self.entries in
    let n = c.args.left.now in
    let after = are_rooms es fs n.name n.address c.insert.result (λ u. u.0) c.insert.ensures.updates c.insert.ensures.err
    c.insert.ensures.ordered c.requires.rooms n.reach in
    is_set es fs n.name n.address
    (sure es fs n.name n.address c.insert.result c.insert.ensures.absent c.requires.room c.insert.ensures.updates).0
    c.requires.rooms.once after.once
