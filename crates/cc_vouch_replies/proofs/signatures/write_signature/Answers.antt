use Rattle.std.proofs.Common.{[], ◌∷◌, ◌++◌, codes, encode_utf8_all, subst}
use Rattle.std.proofs.lemmas.Result.{err_from_is_err_and}
use Rattle.std.specs.String.{string_bytes}
use Rattle.cc_core.specs.TermViews.{type_of}
use Rattle.cc_io.specs.Pieces.{IsPassedOn}
use Rattle.cc_io.specs.Wholes.{AppendsFront}
use Rattle.cc_print.specs.TypeTexts.{type_text}
use Rattle.cc_vouch_replies.proofs.StreamedTypes.{line_in_three, stopped_in_first, stopped_in_second, streams_three}
use Rattle.cc_vouch_replies.proofs.signatures.write_signature.Goals as goal

pub returns-in_err-write_front-clause-streams : goal.returns-in_err-write_front-clause-streams
returns-in_err-write_front-clause-streams g c =
    let error = err_from_is_err_and c.from_residual.result c.from_residual.ensures.1 in
    let name = encode_utf8_all c.args.def.now.name in
    let signature = type_text c.args.names.now.names.items 0 (type_of c.args.def.now.sig) in
    rw error.1
    (stopped_in_first (codes "  " ++ name ++ codes ": ") signature (10 ∷ []) _ (line_in_three (codes "  ") name (codes ": ") signature (10 ∷ []))
    (g.K.Sink.written c.args.sink.now) (g.K.Sink.written c.write_front.new.sink) (string_bytes c.args.waiting.now)
    c.in_err-write_front.ensures.streams)

pub returns-in_err-write_type-clause-streams : goal.returns-in_err-write_type-clause-streams
returns-in_err-write_type-clause-streams g c =
    let error = err_from_is_err_and c.from_residual-in_err-write_type.result c.from_residual-in_err-write_type.ensures.1 in
    let names = c.args.names.now.names.items in
    let name = encode_utf8_all c.args.def.now.name in
    let signature = type_text names 0 (type_of c.args.def.now.sig) in
    rw error.1
    (stopped_in_second (codes "  " ++ name ++ codes ": ") signature (10 ∷ []) _ (line_in_three (codes "  ") name (codes ": ") signature (10 ∷ []))
    (g.K.Sink.written c.args.sink.now) (g.K.Sink.written c.write_front.new.sink) (string_bytes c.args.waiting.now)
    (string_bytes c.write_front.new.waiting) c.in_ok-write_front.ensures.streams (g.K.Sink.written c.write_type.new.sink)
    (subst (λ locals. AppendsFront (g.K.Sink.written c.write_front.new.sink) (g.K.Sink.written c.write_type.new.sink)
    (string_bytes c.write_front.new.waiting ++ type_text names locals (type_of c.args.def.now.sig))) c.requires.names
    c.in_err-write_type.ensures.streams))

pub returns-clause-streams : goal.returns-clause-streams
returns-clause-streams g c =
    let names = c.args.names.now.names.items in
    let name = encode_utf8_all c.args.def.now.name in
    let signature = type_text names 0 (type_of c.args.def.now.sig) in
    streams_three (codes "  " ++ name ++ codes ": ") signature (10 ∷ []) _ (line_in_three (codes "  ") name (codes ": ") signature (10 ∷ []))
    (g.K.Sink.written c.args.sink.now) (g.K.Sink.written c.write_front.new.sink) (string_bytes c.args.waiting.now)
    (string_bytes c.write_front.new.waiting) c.in_ok-write_front.ensures.streams (g.K.Sink.written c.write_type.new.sink)
    (g.K.Sink.written c.write_line_feed.new.sink) (string_bytes c.write_type.new.waiting) (string_bytes c.write_line_feed.new.waiting)
    c.write_line_feed.result
    (subst (λ locals. IsPassedOn (g.K.Sink.written c.write_front.new.sink) (g.K.Sink.written c.write_type.new.sink)
    (string_bytes c.write_front.new.waiting) (string_bytes c.write_type.new.waiting) (type_text names locals (type_of c.args.def.now.sig)))
    c.requires.names c.in_ok-write_type.ensures.streams)
    c.write_line_feed.ensures.streams
