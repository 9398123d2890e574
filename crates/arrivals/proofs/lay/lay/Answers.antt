-- `arrivals::lay::lay` meets its contract: what each stage leaves, later stages keep.
-- Assumes nothing.
use Rattle.std.proofs.Common.{inl, inr, ◌∙◌, arith}
use Rattle.std.proofs.Math.ListN.{length}
use Rattle.sheet.specs.Lists.{flat}
use Rattle.arrivals.specs.Inner.Laying.{Celled, Parts, counted-as, laid-blank, laid-blank-cells, laid-linked, laid_of, laid-celled, linked-kept, celled-kept}
use Rattle.arrivals.specs.Inner.Lent.{Linked}
use Rattle.arrivals.specs.Inner.OfSheet.{closures-of, corridors-of}
use Rattle.arrivals.proofs.lay.lay.Goals as goal
use Rattle.arrivals.proofs.lay.lay.Goals.{After-chain-2, After-lay_counts}

parts : (c : After-lay_counts) → let s = c.args.sheet.now in
    Parts s (flat s.corridors) (flat s.closures) (length s.corridors) (length s.closures) c.args.net.now c.lay_waits.new.net c.lay_links.new.net c.lay_closures.new.net c.lay_counts.new.net
parts c =
    let k = c.count-corridors.ensures.valid in
    record {
      able = corridors-of k;
      shut = closures-of k;
      size = c.requires.0;
      blank = c.requires.1;
      waits = c.lay_waits.ensures;
      links = c.lay_links.ensures;
      laid = c.lay_closures.ensures;
      counts = counted-as c.count-corridors.ensures.counted c.places.ensures.is c.start.ensures c.count-closures.ensures.counted c.lay_counts.ensures;
    }

-- both chains of corridors leave corridors and closures as they are
linked : (c : After-chain-2) → Linked c.lay_counts.new.net → Linked c.chain-2.new.net
linked c l = linked-kept (inl (omega arith)) c.chain-2.ensures.others (linked-kept (inl (omega arith)) c.chain.ensures.others l)

celled : (c : After-chain-2) → Celled c.lay_counts.new.net → Celled c.chain-2.new.net
celled c l = celled-kept (inl (omega arith)) (omega arith) c.chain-2.ensures.others (celled-kept (inl (omega arith)) (omega arith) c.chain.ensures.others l)

pub chain-requires : goal.chain-requires
chain-requires c = let p = parts (goal.at.chain-requires c).After-lay_counts in (omega arith, laid-linked p, record { zero = λ i y z. laid-blank p i (omega arith) (omega arith) })

pub chain-requires-2 : goal.chain-requires-2
chain-requires-2 c =
    let p = parts (goal.at.chain-requires-2 c).After-lay_counts in
    let e = c.chain.ensures.others in
    (omega arith, linked-kept (inl (omega arith)) e (laid-linked p), record { zero = λ i y z. e.same i (inr (omega arith)) ∙ laid-blank p i (omega arith) (omega arith) })

pub chain_closures-requires : goal.chain_closures-requires
chain_closures-requires c =
    let a = goal.at.chain_closures-requires c in
    let p = parts a.After-lay_counts in
    (celled a.After-chain-2 (laid-celled p), record { zero = λ i y z. c.chain-2.ensures.others.same i (inr (omega arith)) ∙ c.chain.ensures.others.same i (inr (omega arith)) ∙ laid-blank-cells p i y z })

pub note_closures-requires : goal.note_closures-requires
note_closures-requires c =
    let a = goal.at.note_closures-requires c in
    celled-kept (inr (omega arith)) (omega arith) c.chain_closures.ensures.others (celled a.After-chain-2 (laid-celled (parts a.After-lay_counts)))

pub weigh-requires : goal.weigh-requires
weigh-requires c =
    let a = goal.at.weigh-requires c in
    linked-kept (inr (omega arith)) c.note_closures.ensures.others
    (linked-kept (inr (omega arith)) c.chain_closures.ensures.others (linked a.After-chain-2 (laid-linked (parts a.After-lay_counts))))

pub returns : goal.returns
returns c = laid_of (parts (goal.at.returns c).After-lay_counts) _ _ _ _ _ c.chain.ensures c.chain-2.ensures c.chain_closures.ensures c.note_closures.ensures c.weigh.ensures
