use Rattle.std.proofs.Common.{◌≡◌, ◌+◌, ◌-◌, length, Err, sym, ap, ◌∙◌, subst, arith}
use Rattle.std.proofs.lemmas.Result.{err_from_is_err_and}
use Rattle.cc_lex.specs.Lexemes.{placed_all}
use Rattle.cc_grammar.specs.Reading.{import_at, imports_at, behind_first, top_room}
use Rattle.cc_parse.specs.Agreement.{Agrees, behind}
use Rattle.cc_parse.specs.Trees.{import_syntax, imports_syntax}
use Rattle.cc_parse.proofs.FoundLists.{behind-end, turn-goes_on, turn-stops}
use Rattle.cc_parse.proofs.ModuleLoops.{imports-end, imports-out, imports-turn}
use Rattle.cc_parse.proofs.parser.read_imports.Goals as goal

pub returns-then-not-begins_word : goal.returns-then-not-begins_word
returns-then-not-begins_word c =
    let left = placed_all c.loop-taken.left.now in
    let none = imports-end (length c.args.tokens.now - c.loop-taken._taken) left (sym c.if-not-begins_word.ensures) in
    sym c.loop-taken.invariant ∙ (ap (behind (imports_syntax c.loop-taken.imports)) none ∙ behind-end (imports_syntax c.loop-taken.imports) top_room left)

pub returns : goal.returns
returns c =
    let left = placed_all c.loop-taken.left.now in
    let out : length c.args.tokens.now - c.loop-taken._taken ≡ 0 = omega arith in
    let none = ap (λ n. imports_at n left) out ∙ imports-out left in
    sym c.loop-taken.invariant ∙ (ap (behind (imports_syntax c.loop-taken.imports)) none ∙ behind-end (imports_syntax c.loop-taken.imports) top_room left)

pub returns-in_err-import : goal.returns-in_err-import
returns-in_err-import c =
    let left = placed_all c.loop-taken.left.now in
    let steps = length c.args.tokens.now - c.loop-taken._taken in
    let next = length c.args.tokens.now - (c.loop-taken._taken + 1) in
    let begins = sym c.if-not-begins_word.ensures in
    let one = import_at (behind_first left) in
    let turn = imports-turn steps next left (omega arith) begins in
    let stop = c.in_err-import.field-0.0 in
    let found = subst (λ ts. Agrees import_syntax (Err stop) (import_at ts)) c.behind_first.ensures c.in_err-import.ensures in
    let error = err_from_is_err_and c.from_residual.result c.from_residual.ensures.1 in
    rw (error.1, error.2) (turn-stops import_syntax imports_syntax (imports_syntax c.loop-taken.imports) one (imports_at next) (imports_at steps left) _ stop turn c.loop-taken.invariant found)

pub loop-taken-preserved : goal.loop-taken-preserved
loop-taken-preserved c =
    let left = placed_all c.loop-taken.left.now in
    let steps = length c.args.tokens.now - c.loop-taken._taken in
    let next = length c.args.tokens.now - (c.loop-taken._taken + 1) in
    let begins = sym c.if-not-begins_word.ensures in
    let one = import_at (behind_first left) in
    let turn = imports-turn steps next left (omega arith) begins in
    let found = ap import_at (sym c.behind_first.ensures) ∙ c.in_ok-import.ensures in
    turn-goes_on import_syntax c.loop-taken.imports.items c.push.new.self.items c.in_ok-import.import one (imports_at next) (imports_at steps left) _ _ (placed_all c.in_ok-import.rest.now)
    turn c.loop-taken.invariant found c.in_ok-push.ensures.items
