use Rattle.std.proofs.Common.{◌≡◌, ◌+◌, ◌*◌}
use Rattle.cc_lex.specs.Lexemes.{placed_all}
use Rattle.cc_grammar.specs.Reading.{part_at, links_at}
use Rattle.cc_parse.specs.Trees.{boxed_expr_syntax}
use Rattle.cc_parse.proofs.exprs.+exprs.Given as goal

abbrev pub decreases-read_expr : goal.decreases-read_expr
decreases-read_expr l = 8 * l.room

abbrev pub decreases-read_paren : goal.decreases-read_paren
decreases-read_paren l = 8 * l.room + 1

abbrev pub decreases-read_val : goal.decreases-read_val
decreases-read_val l = 8 * l.room + 1

abbrev pub decreases-read_fun : goal.decreases-read_fun
decreases-read_fun l = 8 * l.room + 1

abbrev pub decreases-read_type_fun : goal.decreases-read_type_fun
decreases-read_type_fun l = 8 * l.room + 1

abbrev pub decreases-read_if : goal.decreases-read_if
decreases-read_if l = 8 * l.room + 1

abbrev pub decreases-read_boundary : goal.decreases-read_boundary
decreases-read_boundary l = 8 * l.room + 1

abbrev pub decreases-read_box : goal.decreases-read_box
decreases-read_box l = 8 * l.room + 1

abbrev pub decreases-read_unbox : goal.decreases-read_unbox
decreases-read_unbox l = 8 * l.room + 1

abbrev pub decreases-read_exit : goal.decreases-read_exit
decreases-read_exit l = 8 * l.room + 1

abbrev pub decreases-read_repeat : goal.decreases-read_repeat
decreases-read_repeat l = 8 * l.room + 1

abbrev pub decreases-read_right : goal.decreases-read_right
decreases-read_right l = 8 * l.room + 1

abbrev pub decreases-read_argument : goal.decreases-read_argument
decreases-read_argument l = 8 * l.room + 1

abbrev pub decreases-read_telling : goal.decreases-read_telling
decreases-read_telling l = 8 * l.room + 1

abbrev pub decreases-read_behind_fun : goal.decreases-read_behind_fun
decreases-read_behind_fun l = 8 * l.room + 2

abbrev pub decreases-read_operation : goal.decreases-read_operation
decreases-read_operation l = 8 * l.room + 2

abbrev pub decreases-read_expr_start : goal.decreases-read_expr_start
decreases-read_expr_start l = 8 * l.room + 3

abbrev pub decreases-read_behind_dot : goal.decreases-read_behind_dot
decreases-read_behind_dot l = 8 * l.room + 3

abbrev pub decreases-read_link : goal.decreases-read_link
decreases-read_link l = 8 * l.room + 4

abbrev pub decreases-read_links : goal.decreases-read_links
decreases-read_links l = 8 * l.room + 5

abbrev pub decreases-read_started : goal.decreases-read_started
decreases-read_started l = 8 * l.room + 6

-- what is read of the rest is what is read of the whole
abbrev pub invariant-read_links-loop-link : goal.invariant-read_links-loop-link
invariant-read_links-loop-link l =
    links_at (part_at l.room) l.least l.spare (boxed_expr_syntax l.expr) l.spare (placed_all l.left)
    ≡ links_at (part_at l.room) l.least l.fn.spare (boxed_expr_syntax l.fn.expr) l.fn.spare (placed_all l.tokens)

abbrev pub decreases-read_links-loop-link : goal.decreases-read_links-loop-link
decreases-read_links-loop-link l = l.spare
