use Rattle.std.proofs.Common.{Err, sym, ap, ◌∙◌, subst, arith}
use Rattle.std.proofs.lemmas.Result.{err_from_is_err_and}
use Rattle.cc_lex.specs.Lexemes.{placed_all}
use Rattle.cc_grammar.specs.Reading.{WholeExpr, part_at, next_link}
use Rattle.cc_parse.specs.Agreement.{Agrees}
use Rattle.cc_parse.specs.Trees.{expr_syntax, boxed_expr_syntax}
use Rattle.cc_parse.specs.Steps.{expr_start, expr_head_of, link_syntax}
use Rattle.cc_grammar.proofs.Rooms.{links_at-none}
use Rattle.cc_parse.proofs.LinkLoops.{links-high, links-stops, links-go_on, links-fall}
use Rattle.cc_parse.proofs.Parts.{expr_found-empty, expr_found-none, expr_found-alone, expr_found-whole, expr_found-loose, expr_found-high, expr_found-starts}
use Rattle.cc_parse.proofs.exprs.+exprs.Goals as goal

pub read_expr-returns-in-empty : goal.read_expr-returns-in-empty
read_expr-returns-in-empty t c = expr_found-empty c.args.room c.args.least c.args.tokens.now c.in-empty.len_below

pub read_expr-returns-then-room-eq0 : goal.read_expr-returns-then-room-eq0
read_expr-returns-then-room-eq0 t c =
    let head = c.in_ok-expr-in-len1-up.ensures in
    let whole = sym head ∙ (ap expr_head_of c.in-Whole.is ∙ ap (λ e. WholeExpr (expr_syntax e)) (sym c.in_ok-expr-in-Whole.ensures.ok)) in
    subst (Agrees boxed_expr_syntax c.without_links.result)
    (sym (expr_found-alone c.args.room c.args.least c.args.tokens.now c.token-item.result c.in-len1-up.len_at_least c.token-item.is _ c.if-room-eq0.true whole))
    c.without_links.ensures

pub read_expr-returns-else-room-eq0 : goal.read_expr-returns-else-room-eq0
read_expr-returns-else-room-eq0 t c =
    let head = c.in_ok-expr-in-len1-up.ensures in
    let whole = sym head ∙ (ap expr_head_of c.in-Whole.is ∙ ap (λ e. WholeExpr (expr_syntax e)) (sym c.in_ok-expr-in-Whole.ensures.ok)) in
    subst (Agrees boxed_expr_syntax c.read_links.result)
    (sym (expr_found-whole c.args.room c.args.least c.args.tokens.now c.token-item.result c.in-len1-up.len_at_least c.token-item.is _ (omega arith) whole))
    c.read_links.ensures

pub read_expr-returns-then-least-start_level : goal.read_expr-returns-then-least-start_level
read_expr-returns-then-least-start_level t c =
    let head = c.in_ok-expr-in-len1-up.ensures in
    let start = sym head ∙ ap expr_head_of c.in-Starts.is in
    expr_found-loose c.args.room c.args.least c.args.tokens.now c.token-item.result c.in-len1-up.len_at_least c.token-item.is (expr_start c.in-Starts.start) (omega arith) start

pub read_expr-returns-then-room-eq0-2 : goal.read_expr-returns-then-room-eq0-2
read_expr-returns-then-room-eq0-2 t c =
    let head = c.in_ok-expr-in-len1-up.ensures in
    let start = sym head ∙ ap expr_head_of c.in-Starts.is in
    expr_found-high c.args.room c.args.least c.args.tokens.now c.token-item.result c.in-len1-up.len_at_least c.token-item.is (expr_start c.in-Starts.start) (omega arith) c.if-room-eq0-2.true start

pub read_expr-returns-else-room-eq0-2 : goal.read_expr-returns-else-room-eq0-2
read_expr-returns-else-room-eq0-2 t c =
    let head = c.in_ok-expr-in-len1-up.ensures in
    let start = sym head ∙ ap expr_head_of c.in-Starts.is in
    subst (Agrees boxed_expr_syntax c.read_started.result)
    (sym (expr_found-starts c.args.room c.args.least c.args.tokens.now c.token-item.result c.in-len1-up.len_at_least c.token-item.is (expr_start c.in-Starts.start) (omega arith) (omega arith) start))
    c.read_started.ensures

pub read_expr-returns-in-Misfit : goal.read_expr-returns-in-Misfit
read_expr-returns-in-Misfit t c =
    let head = c.in_ok-expr-in-len1-up.ensures in
    expr_found-none c.args.room c.args.least c.args.tokens.now c.token-item.result c.in-len1-up.len_at_least c.token-item.is (sym head ∙ ap expr_head_of c.in-Misfit.is)

pub read_links-returns-then-spare-eq0 : goal.read_links-returns-then-spare-eq0
read_links-returns-then-spare-eq0 t c =
    let parts = part_at c.args.room in
    let expr = boxed_expr_syntax c.loop-link.expr in
    let left = placed_all c.loop-link.left.now in
    let next = ap (λ e. next_link c.args.least (expr_syntax e) left) (sym c.deref.ensures) ∙ sym c.in-Some.ensures in
    sym c.loop-link.invariant ∙ links-high parts c.args.least expr c.loop-link.spare left (link_syntax c.in-Some.link) next c.if-spare-eq0.true

pub read_links-returns-in_err-more : goal.read_links-returns-in_err-more
read_links-returns-in_err-more t c =
    let parts = part_at c.args.room in
    let expr = boxed_expr_syntax c.loop-link.expr in
    let left = placed_all c.loop-link.left.now in
    let next = ap (λ e. next_link c.args.least (expr_syntax e) left) (sym c.deref.ensures) ∙ sym c.in-Some.ensures in
    let error = err_from_is_err_and c.from_residual.result c.from_residual.ensures.1 in
    rw (error.1, error.2) (subst (Agrees boxed_expr_syntax (Err c.in_err-more.field-0.0)) c.loop-link.invariant
    (links-stops parts c.args.least expr c.loop-link.spare left (placed_all c.behind_first.result.now) (link_syntax c.in-Some.link) next (omega arith) c.behind_first.ensures boxed_expr_syntax c.in_err-more.field-0.0 c.in_err-more.ensures))

pub read_links-loop-link-smaller : goal.read_links-loop-link-smaller
read_links-loop-link-smaller t c =
    let parts = part_at c.args.room in
    let expr = boxed_expr_syntax c.loop-link.expr in
    let left = placed_all c.loop-link.left.now in
    let next = ap (λ e. next_link c.args.least (expr_syntax e) left) (sym c.deref.ensures) ∙ sym c.in-Some.ensures in
    links-fall parts c.args.least expr c.loop-link.spare left (placed_all c.behind_first.result.now) (link_syntax c.in-Some.link) next (omega arith) c.behind_first.ensures (boxed_expr_syntax c.in_ok-more.more) c.in_ok-more.less (placed_all c.in_ok-more.rest.now) c.in_ok-more.ensures

pub read_links-loop-link-preserved : goal.read_links-loop-link-preserved
read_links-loop-link-preserved t c =
    let parts = part_at c.args.room in
    let expr = boxed_expr_syntax c.loop-link.expr in
    let left = placed_all c.loop-link.left.now in
    let next = ap (λ e. next_link c.args.least (expr_syntax e) left) (sym c.deref.ensures) ∙ sym c.in-Some.ensures in
    links-go_on parts c.args.least expr c.loop-link.spare left (placed_all c.behind_first.result.now) (link_syntax c.in-Some.link) next (omega arith) c.behind_first.ensures (boxed_expr_syntax c.in_ok-more.more) c.in_ok-more.less (placed_all c.in_ok-more.rest.now) c.in_ok-more.ensures
    ∙ c.loop-link.invariant

pub read_links-returns : goal.read_links-returns
read_links-returns t c =
    let parts = part_at c.args.room in
    let expr = boxed_expr_syntax c.loop-link.expr in
    let left = placed_all c.loop-link.left.now in
    let none = ap (λ e. next_link c.args.least (expr_syntax e) left) (sym c.deref.ensures) ∙ sym c.in_default.ensures in
    sym c.loop-link.invariant ∙ links_at-none parts c.args.least expr c.loop-link.spare left none
