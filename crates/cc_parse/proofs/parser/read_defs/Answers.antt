use Rattle.std.proofs.Common.{◌≡◌, ◌+◌, ◌-◌, length, Err, sym, ap, ◌∙◌, subst, arith}
use Rattle.std.proofs.lemmas.Result.{err_from_is_err_and}
use Rattle.cc_lex.specs.Lexemes.{placed_all}
use Rattle.cc_grammar.specs.Reading.{def_at, defs_at, behind_first}
use Rattle.cc_parse.specs.Agreement.{Agrees, behind}
use Rattle.cc_parse.specs.Trees.{def_syntax, defs_syntax}
use Rattle.cc_parse.proofs.FoundLists.{turn-goes_on, turn-stops}
use Rattle.cc_parse.proofs.ModuleLoops.{defs-none, defs-turn}
use Rattle.cc_parse.proofs.parser.read_defs.Goals as goal

pub returns-then-not-begins_word : goal.returns-then-not-begins_word
returns-then-not-begins_word c =
    let left = placed_all c.loop-taken.left.now in
    let none = defs-none (length c.args.tokens.now - c.loop-taken._taken) left (sym c.if-not-begins_word.ensures) in
    subst (Agrees defs_syntax c.end_of_defs.result) (ap (behind (defs_syntax c.loop-taken.defs)) (sym none) ∙ c.loop-taken.invariant) c.end_of_defs.ensures

pub returns : goal.returns
returns c =
    let left = placed_all c.loop-taken.left.now in
    let out : 0 ≡ length c.args.tokens.now - c.loop-taken._taken = omega arith in
    subst (Agrees defs_syntax c.end_of_defs-2.result) (ap (λ n. behind (defs_syntax c.loop-taken.defs) (defs_at n left)) out ∙ c.loop-taken.invariant) c.end_of_defs-2.ensures

pub returns-in_err-def : goal.returns-in_err-def
returns-in_err-def c =
    let left = placed_all c.loop-taken.left.now in
    let steps = length c.args.tokens.now - c.loop-taken._taken in
    let next = length c.args.tokens.now - (c.loop-taken._taken + 1) in
    let begins = sym c.if-not-begins_word.ensures in
    let one = def_at (behind_first left) in
    let turn = defs-turn steps next left (omega arith) begins in
    let stop = c.in_err-def.field-0.0 in
    let found = subst (λ ts. Agrees def_syntax (Err stop) (def_at ts)) c.behind_first.ensures c.in_err-def.ensures in
    let error = err_from_is_err_and c.from_residual.result c.from_residual.ensures.1 in
    rw (error.1, error.2) (turn-stops def_syntax defs_syntax (defs_syntax c.loop-taken.defs) one (defs_at next) (defs_at steps left) _ stop turn c.loop-taken.invariant found)

pub loop-taken-preserved : goal.loop-taken-preserved
loop-taken-preserved c =
    let left = placed_all c.loop-taken.left.now in
    let steps = length c.args.tokens.now - c.loop-taken._taken in
    let next = length c.args.tokens.now - (c.loop-taken._taken + 1) in
    let begins = sym c.if-not-begins_word.ensures in
    let one = def_at (behind_first left) in
    let turn = defs-turn steps next left (omega arith) begins in
    let found = ap def_at (sym c.behind_first.ensures) ∙ c.in_ok-def.ensures in
    turn-goes_on def_syntax c.loop-taken.defs.items c.push.new.self.items c.in_ok-def.def one (defs_at next) (defs_at steps left) _ _ (placed_all c.in_ok-def.rest.now)
    turn c.loop-taken.invariant found c.in_ok-push.ensures.items
