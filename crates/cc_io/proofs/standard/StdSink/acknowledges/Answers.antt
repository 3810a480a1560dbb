use Rattle.std.proofs.Common.{◌≡◌, subst}
use Rattle.std.specs.Io.KnownBytes.{Appends}
use Rattle.cc_io.specs.Acknowledged.{HoldsAcknowledged}
use Rattle.cc_io.proofs.Acknowledgements.{holds_acknowledged, holds_whole}
use Rattle.cc_io.proofs.standard.StdSink.acknowledges.Goals as goal

pub returns-clause-held : goal.returns-clause-held
returns-clause-held g c =
    subst (λ s. HoldsAcknowledged g.W.Writer.contents s.begun s.stream s.faults s.acknowledged) c.self.view_is
    (holds_acknowledged g.W.Writer.contents g.W.Writer.writes g.W.Writer.flushes c.self.invariant)

pub returns-clause-whole : goal.returns-clause-whole
returns-clause-whole g c =
    subst (λ s. s.faults ≡ 0 → Appends (g.W.Writer.contents s.begun) (g.W.Writer.contents s.stream) s.acknowledged)
    c.self.view_is (holds_whole g.W.Writer.contents c.self.inside.begun.value c.self.inside.writer c.self.inside.faults
    c.self.inside.acknowledged.text (holds_acknowledged g.W.Writer.contents g.W.Writer.writes g.W.Writer.flushes c.self.invariant))
