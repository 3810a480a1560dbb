use Rattle.std.proofs.Common.{◌∙◌, ap, map}
use Rattle.std.specs.Str.{chars}
use Rattle.std.proofs.lemmas.List.{map_push}
use Rattle.cc_lex.specs.Lexical.{spanned_of}
use Rattle.cc_lex.proofs.CuttingSteps.{front-white, front-blank, front-token, front-spaces, front-none}
use Rattle.cc_lex.proofs.lexer.find_front.Goals as goal

pub returns-in-Some : goal.returns-in-Some
returns-in-Some c = front-blank c.args.at c.args.start c.args.first (chars c.args.after.now) (map spanned_of c.args.tokens.now.items) c.blank_of.result c.in-Some.more c.blank_of.ensures c.in-Some.is

pub returns-in_ok-push-in-Ok : goal.returns-in_ok-push-in-Ok
returns-in_ok-push-in-Ok c =
    front-spaces c.args.at c.args.start c.args.first (chars c.args.after.now) (map spanned_of c.args.tokens.now.items) (map spanned_of c.push.new.self.items) c.in-Ok.front.1 c.with_spaces.result
    (front-token c.args.at c.args.start c.args.first (chars c.args.after.now) (map spanned_of c.args.tokens.now.items) _ (spanned_of c.in-Ok.front.0) c.in-Ok.front.1 c.in_default.ensures
    c.in-Ok.ensures.found c.in-Ok.ensures.size (ap (map spanned_of) c.in_ok-push-in-Ok.ensures.items ∙ map_push spanned_of c.args.tokens.now.items c.in-Ok.front.0))
    c.with_spaces.ensures

pub returns-in-Err : goal.returns-in-Err
returns-in-Err c = front-none c.args.at c.args.start c.args.first (chars c.args.after.now) (map spanned_of c.args.tokens.now.items) (map spanned_of c.args.tokens.now.items) c.in-Err.error c.in_default.ensures c.in-Err.ensures.found

pub returns-then-is_white : goal.returns-then-is_white
returns-then-is_white c =
    front-white c.args.at c.args.start c.args.first (chars c.args.after.now) (map spanned_of c.args.tokens.now.items) c.is_white.result c.size_in.result c.is_white.ensures c.if-is_white.true c.size_in.ensures
