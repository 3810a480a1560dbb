use Rattle.std.proofs.Common.{◌≡◌, ℕ, ◌-◌, ◌<◌, ◌++◌, [], ◌∷◌, length, take, subst, arith}
use Rattle.cc_certificate_text.specs.Certificates.{Proving}
use Rattle.cc_certificate_text.specs.Reading.{Got}
use Rattle.cc_certificate_text.specs.LineReading.{next_line}
use Rattle.cc_certificate_reading.specs.CertificateViews.{node_line_of}
use Rattle.cc_certificate_reading.proofs.Progress.{RefusedAs, begin_nodes_with, node_refused, node_shorter, node_further, several_refused}
use Rattle.cc_certificate_reading.proofs.read.read_nodes.Goals as goal

pub loop-rest-init : goal.loop-rest-init
loop-rest-init c =
    begin_nodes_with c.args.bytes.now c.args.heading.now c.new-nodes.result.items c.new-unused.result.items c.args.left.now
    c.new-nodes.ensures.items c.new-unused.ensures.items c.requires

pub returns-in-Err : goal.returns-in-Err
returns-in-Err c =
    let some : 0 < length c.loop-rest.rest.now = omega arith in
    node_refused {A = ℕ} (λ n. []) _ _ _ _ _ _ _ c.loop-rest.invariant c.in-Err.stop c.stopped.result some
    (subst (λ u. RefusedAs c.in-Err.stop (next_line (Proving c.args.heading.now.names c.loop-rest.count u) c.loop-rest.rest.now)) c.as_slice.ensures.value
    c.in-Err.ensures)
    c.stopped.ensures

pub loop-rest-smaller : goal.loop-rest-smaller
loop-rest-smaller c =
    node_shorter _ _ _ _ _ _ _ c.loop-rest.invariant (node_line_of c.in-Ok.read.0) c.in-Ok.read.1.now
    (subst (λ u. next_line (Proving c.args.heading.now.names c.loop-rest.count u) c.loop-rest.rest.now ≡ Got (node_line_of c.in-Ok.read.0) c.in-Ok.read.1.now) c.as_slice.ensures.value
    c.in-Ok.ensures)

pub loop-rest-preserved : goal.loop-rest-preserved
loop-rest-preserved c =
    node_further _ _ _ _ _ _ _ c.loop-rest.invariant c.push.new.self.items c.in_ok-count.count c.use_up.new.unused.items c.in_ok-lines.lines c.in-Ok.read.0 c.in-Ok.read.1.now
    (subst (λ u. next_line (Proving c.args.heading.now.names c.loop-rest.count u) c.loop-rest.rest.now ≡ Got (node_line_of c.in-Ok.read.0) c.in-Ok.read.1.now) c.as_slice.ensures.value
    c.in-Ok.ensures)
    c.in_ok-push.ensures.items c.in_ok-count.ensures.next
    (subst (λ ps. c.use_up.new.unused.items ≡ take (length c.loop-rest.unused.items - length ps) c.loop-rest.unused.items ++ c.in_ok-count.count ∷ [])
    c.as_slice-in-loop-rest.ensures.value c.in_ok-use_up.ensures)
    c.in_ok-lines.ensures.next

pub returns-else-len-eq1 : goal.returns-else-len-eq1
returns-else-len-eq1 c =
    let none : length c.loop-rest.rest.now ≡ 0 = omega arith in
    several_refused {A = ℕ} (λ n. []) _ _ _ _ _ _ _ c.loop-rest.invariant c.stopped-else-len-eq1.result none (λ one. omega (arith, one)) c.stopped-else-len-eq1.ensures
