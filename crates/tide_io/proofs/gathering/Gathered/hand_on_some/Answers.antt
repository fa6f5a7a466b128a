-- Answers to the goals of gathering::Gathered::hand_on_some.
use Rattle.std.proofs.Common.{ℕ, ◌-◌, List, length, take, drop, subst, sym}
use Rattle.std.specs.Io.KnownBytes.{Appends}
use Rattle.tide_io.proofs.GatheringLaws.{Keeps-sent}
use Rattle.tide_io.proofs.gathering.Gathered.hand_on_some.Goals as goal

pub returns-clause-same : goal.returns-clause-same
returns-clause-same g c =
    let sent = c.self.inside.sent in
    let count = c.in_ok-count.count in
    rw (sym c.self.view_is) (Keeps-sent (g.K.Sink.held c.self.inside.out) (g.K.Sink.held c.write.new.self) sent count c.self.inside.bytes.items
    (subst (λ (l : List ℕ). Appends (g.K.Sink.held c.self.inside.out) (g.K.Sink.held c.write.new.self) (take count (take (length l - sent) (drop sent l))))
    c.as_slice.ensures.value c.in_ok-count.ensures.bytes))
