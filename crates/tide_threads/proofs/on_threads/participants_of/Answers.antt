-- Why there is a participant for each mutator and each visitor.
use Rattle.std.proofs.Common.{ℕ, ◌≡◌, sym, subst, List, length}
use Rattle.crossbeam_utils.specs.declared.cache_padded.CachePadded.{CachePadded}
use Rattle.tide_threads.specs.Fresh.{AreFresh}
use Rattle.tide_threads.specs.declared.participant.Participant.{Participant}
use Rattle.tide_threads.proofs.on_threads.participants_of.Goals as goal

pub returns-clause-fresh : goal.returns-clause-fresh
returns-clause-fresh c = λ id mutators visitors.
    let first = c.in_ok-seat_mutators.ensures.fresh id c.args.cells mutators in
    let many : length c.seat_mutators.new.participants.items ≡ length c.args.mutators.items = c.in_ok-seat_mutators.ensures.one_each in
    let Fresh : ℕ → List (CachePadded Participant) → Type 0 =
    λ (n : ℕ) (xs : List (CachePadded Participant)). AreFresh id n c.args.cells xs in
    subst (λ (n : ℕ). Fresh n c.seat_visitors.new.participants.items) many
    (c.in_ok-seat_visitors.ensures.fresh id visitors
    (subst (λ (n : ℕ). Fresh n c.seat_mutators.new.participants.items) (sym many) first))
