use Rattle.std.proofs.Common.{◌∙◌, ◌≡◌, ◌-◌, ap, Some, ◌∷◌, ◌+◌, take, length, encode_utf8, arith}
use Rattle.std.specs.Str.{chars}
use Rattle.cc_lex.specs.Lexemes.{lexeme_of}
use Rattle.cc_lex.specs.Cutting.{front_of, size_of}
use Rattle.cc_lex.proofs.CuttingLaws.{token_of-none}
use Rattle.cc_lex.proofs.FoundTokens.{front-form, finds-token, finds-error}
use Rattle.cc_lex.proofs.Sizes.{sized-some, sized-none}
use Rattle.cc_lex.proofs.TextFronts.{IsFrontSlice, front-slice}
use Rattle.cc_lex.proofs.lexer.token_of.Goals as goal
use Rattle.cc_lex.proofs.lexer.token_of.Goals.{In_ok-end, After-kind_of-arg-1}

pub returns-in_default-clause-found : goal.returns-in_default-clause-found
returns-in_default-clause-found c =
    let none = sized-none c.args.first (chars c.args.after.now) c.in_default.ensures in
    (token_of-none c.args.at c.args.start c.args.first (chars c.args.after.now) none, c.no_token.ensures)

found : (c : goal.In_ok-end) → (front_of c.args.first (chars c.args.after.now) ≡ Some (c.in-Some.form, c.in-Some.more.characters)) × (c.in-Some.more ≡ size_of (take c.in-Some.more.characters (chars c.args.after.now)))
found c = sized-some c.args.first (chars c.args.after.now) c.front_of.result c.in-Some.form c.in-Some.more c.front_of.ensures c.in-Some.is

slice : (c : goal.In_ok-end) → IsFrontSlice c.args.text.now c.args.first (take c.in-Some.more.characters (chars c.args.after.now)) c.args.start c.in_ok-end.end
slice c =
    front-slice c.args.text.now c.args.after.now c.args.first c.in-Some.more.characters c.args.start c.in_ok-end.end c.utf8.text c.requires
    (c.in_ok-end.ensures ∙ ap (λ size. (c.args.start + length (encode_utf8 c.args.first)) + size.bytes) (found c).1)

pub overflow_sub-end : goal.overflow_sub-end
overflow_sub-end c = omega (arith, (slice c).ordered)

pub range-requires-clause-end_boundary : goal.range-requires-clause-end_boundary
range-requires-clause-end_boundary c = (slice c).boundary

spelled : (c : goal.After-kind_of-arg-1) → chars c.range.result.now ≡ c.args.first ∷ take c.in-Some.more.characters (chars c.args.after.now)
spelled c =
    let from = c.args.start in
    let to = (goal.at.kind_of-requires c).In_ok-end.in_ok-end.end in
    let whole : (to - from) - 0 ≡ to - from = omega arith in
    ap chars c.range.ensures.value ∙ (ap (λ m. chars (take m c.args.text.now)) whole ∙ (slice (goal.at.kind_of-requires c).In_ok-end).spelled)

pub kind_of-requires : goal.kind_of-requires
kind_of-requires c =
    front-form c.args.first (chars c.args.after.now) (chars c.range.result.now) c.in-Some.form c.in-Some.more.characters (found (goal.at.kind_of-requires c).In_ok-end).0 (spelled c)

pub returns-in-Ok-clause-found : goal.returns-in-Ok-clause-found
returns-in-Ok-clause-found c =
    let at = goal.at.returns-in-Ok-clause-found c in
    finds-token c.args.at c.args.start c.args.first (chars c.args.after.now) (chars c.range.result.now) c.in-Some.form c.in-Some.more.characters c.in_ok-end.end (lexeme_of c.in-Ok.kind) (found at.In_ok-end).0 (spelled at.After-kind_of-arg-1)
    (slice at.In_ok-end).count c.in-Ok.ensures

pub returns-in-Ok-clause-size : goal.returns-in-Ok-clause-size
returns-in-Ok-clause-size c = (found (goal.at.returns-in-Ok-clause-size c).In_ok-end).1

pub returns-in-Err-clause-found : goal.returns-in-Err-clause-found
returns-in-Err-clause-found c =
    let at = goal.at.returns-in-Err-clause-found c in
    finds-error c.args.at c.args.start c.args.first (chars c.args.after.now) (chars c.range.result.now) c.in-Some.form c.in-Some.more.characters c.in-Err.error (found at.In_ok-end).0 (spelled at.After-kind_of-arg-1) c.in-Err.ensures
