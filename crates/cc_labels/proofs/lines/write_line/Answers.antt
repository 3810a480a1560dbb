use Rattle.std.proofs.Common.{[], ◌∷◌, ◌++◌, codes, subst}
use Rattle.std.proofs.lemmas.Result.{err_from_is_err_and}
use Rattle.std.specs.String.{string_bytes}
use Rattle.cc_io.specs.Pieces.{IsPassedOn}
use Rattle.cc_io.specs.Wholes.{AppendsFront}
use Rattle.cc_labels.specs.declared.labels.Labels.{Labels}
use Rattle.cc_labels.specs.LabelledLines.{told}
use Rattle.cc_labels.proofs.StreamedWords.{line_in_three, stopped_in_first, stopped_in_second, streams_three}
use Rattle.cc_labels.proofs.lines.write_line.Goals as goal

pub returns-in_err-write_words-clause-streams : goal.returns-in_err-write_words-clause-streams
returns-in_err-write_words-clause-streams g c =
    let error = err_from_is_err_and c.from_residual.result c.from_residual.ensures.1 in
    let words = string_bytes c.args.line.now.words in
    let type = told c.args.line.now.labels.value c.args.line.now.ty in
    rw error.1
    (stopped_in_first (codes "  " ++ words) type (10 ∷ []) _ (line_in_three (codes "  ") words type (10 ∷ []))
    (g.K.Sink.written c.args.sink.now) (g.K.Sink.written c.write_words.new.sink) (string_bytes c.args.waiting.now)
    (subst (λ w. AppendsFront (g.K.Sink.written c.args.sink.now) (g.K.Sink.written c.write_words.new.sink) (string_bytes c.args.waiting.now ++ (codes "  " ++ w)))
    c.as_str.ensures.value c.in_err-write_words.ensures.streams))

pub returns-in_err-write_told-clause-streams : goal.returns-in_err-write_told-clause-streams
returns-in_err-write_told-clause-streams g c =
    let error = err_from_is_err_and c.from_residual-in_err-write_told.result c.from_residual-in_err-write_told.ensures.1 in
    let words = string_bytes c.args.line.now.words in
    let type = told c.args.line.now.labels.value c.args.line.now.ty in
    rw error.1
    (stopped_in_second (codes "  " ++ words) type (10 ∷ []) _ (line_in_three (codes "  ") words type (10 ∷ []))
    (g.K.Sink.written c.args.sink.now) (g.K.Sink.written c.write_words.new.sink) (string_bytes c.args.waiting.now)
    (string_bytes c.write_words.new.waiting)
    (subst (λ w. IsPassedOn (g.K.Sink.written c.args.sink.now) (g.K.Sink.written c.write_words.new.sink) (string_bytes c.args.waiting.now)
    (string_bytes c.write_words.new.waiting) (codes "  " ++ w)) c.as_str.ensures.value c.in_ok-write_words.ensures.streams)
    (g.K.Sink.written c.write_told.new.sink)
    (subst (λ (l : Labels). AppendsFront (g.K.Sink.written c.write_words.new.sink) (g.K.Sink.written c.write_told.new.sink)
    (string_bytes c.write_words.new.waiting ++ told l c.args.line.now.ty)) c.deref.ensures c.in_err-write_told.ensures.streams))

pub returns-clause-streams : goal.returns-clause-streams
returns-clause-streams g c =
    let words = string_bytes c.args.line.now.words in
    let type = told c.args.line.now.labels.value c.args.line.now.ty in
    streams_three (codes "  " ++ words) type (10 ∷ []) _ (line_in_three (codes "  ") words type (10 ∷ []))
    (g.K.Sink.written c.args.sink.now) (g.K.Sink.written c.write_words.new.sink) (string_bytes c.args.waiting.now)
    (string_bytes c.write_words.new.waiting)
    (subst (λ w. IsPassedOn (g.K.Sink.written c.args.sink.now) (g.K.Sink.written c.write_words.new.sink) (string_bytes c.args.waiting.now)
    (string_bytes c.write_words.new.waiting) (codes "  " ++ w)) c.as_str.ensures.value c.in_ok-write_words.ensures.streams)
    (g.K.Sink.written c.write_told.new.sink)
    (g.K.Sink.written c.write_line_feed.new.sink) (string_bytes c.write_told.new.waiting) (string_bytes c.write_line_feed.new.waiting)
    c.write_line_feed.result
    (subst (λ (l : Labels). IsPassedOn (g.K.Sink.written c.write_words.new.sink) (g.K.Sink.written c.write_told.new.sink)
    (string_bytes c.write_words.new.waiting) (string_bytes c.write_told.new.waiting) (told l c.args.line.now.ty)) c.deref.ensures
    c.in_ok-write_told.ensures.streams)
    c.write_line_feed.ensures.streams
