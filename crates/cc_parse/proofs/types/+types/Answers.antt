use Rattle.std.proofs.Common.{sym, ap, ◌∙◌, subst, arith}
use Rattle.cc_parse.specs.Agreement.{Agrees}
use Rattle.cc_parse.specs.Trees.{shape_syntax}
use Rattle.cc_parse.specs.Steps.{shape_start, shape_head_of}
use Rattle.cc_parse.proofs.Parts.{shape_found-empty, shape_found-whole, shape_found-high, shape_found-none, shape_found-starts}
use Rattle.cc_parse.proofs.types.+types.Goals as goal

pub read_shape-returns-in-empty : goal.read_shape-returns-in-empty
read_shape-returns-in-empty t c = shape_found-empty c.args.room c.args.tokens.now c.in-empty.len_below

pub read_shape-returns-in-Whole : goal.read_shape-returns-in-Whole
read_shape-returns-in-Whole t c =
    let head = c.in_ok-shape-in-len1-up.ensures in
    shape_found-whole c.args.room c.args.tokens.now c.token-item.result c.in-len1-up.len_at_least c.token-item.is (shape_syntax c.in-Whole.shape)
    (sym head ∙ ap shape_head_of c.in-Whole.is)

pub read_shape-returns-in-Starts : goal.read_shape-returns-in-Starts
read_shape-returns-in-Starts t c =
    let head = c.in_ok-shape-in-len1-up.ensures in
    shape_found-high c.args.room c.args.tokens.now c.token-item.result c.in-len1-up.len_at_least c.token-item.is (shape_start c.in-Starts.field-0)
    c.if-room-eq0.true (sym head ∙ ap shape_head_of c.in-Starts.is)

pub read_shape-returns-in-Starts-2 : goal.read_shape-returns-in-Starts-2
read_shape-returns-in-Starts-2 t c =
    let head = c.in_ok-shape-in-len1-up.ensures in
    subst (Agrees shape_syntax c.read_shape_start.result)
    (sym (shape_found-starts c.args.room c.args.tokens.now c.token-item.result c.in-len1-up.len_at_least c.token-item.is
    (shape_start c.in-Starts.field-0) (omega arith) (sym head ∙ ap shape_head_of c.in-Starts.is)))
    c.read_shape_start.ensures

pub read_shape-returns-in-Misfit : goal.read_shape-returns-in-Misfit
read_shape-returns-in-Misfit t c =
    let head = c.in_ok-shape-in-len1-up.ensures in
    shape_found-none c.args.room c.args.tokens.now c.token-item.result c.in-len1-up.len_at_least c.token-item.is (sym head ∙ ap shape_head_of c.in-Misfit.is)
