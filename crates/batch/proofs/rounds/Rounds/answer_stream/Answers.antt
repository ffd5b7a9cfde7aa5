use Rattle.std.proofs.Common.{◌≡◌, ◌++◌, ◌<◌, ℕ, List, length, length-append, take, sym, subst, arith, rules}
use Rattle.std.proofs.lemmas.List.{length-take}
use Rattle.wstore.specs.CallLimits.{limits_of}
use Rattle.batch.proofs.Streamed.{IsStreaming, IsZero, nothing_streamed, piece_bytes, piece_end, stream_endless, stream_fault, stream_more, stream_refused, stream_reported, stream_room, stream_stopped, stream_unended, taken_bad, taken_fault, taken_good, refused_room}
use Rattle.batch.proofs.rounds.Rounds.answer_stream.Goals as goal

pub loop-init : goal.loop-init
loop-init g c = record {
  streaming = subst (λ (h : List ℕ). IsStreaming c.args.self.now.accepted.now (limits_of c.args.self.now.settings) c.new.result c.new.result 0 h (g.F.Read.remaining c.args.calls.now) (g.F.Read.remaining c.args.calls.now) (g.O.Write.contents c.args.out.now) (g.O.Write.contents c.args.out.now)) (sym c.new-held.ensures.items)
      (nothing_streamed c.args.self.now.accepted.now (limits_of c.args.self.now.settings) c.new.result (g.F.Read.remaining c.args.calls.now) (g.O.Write.contents c.args.out.now));
  calls = c.new.ensures.calls;
  counts = c.new.ensures.tally;
}

pub take_piece-requires-clause-room : goal.take_piece-requires-clause-room
take_piece-requires-clause-room g c κs within =
    let s = c.loop.invariant.streaming in
    let room = stream_room _ _ c.new.result c.loop.progress.tally c.loop.counter c.loop.held.items _ _ _ _ s c.loop.invariant.calls c.loop-test.true in
    let taken = piece_bytes _ _ c.read_piece.new.piece c.read_piece.result c.in-Ok-Some.field-0 c.in-Ok-Some.count c.read_piece.ensures c.in-Ok-Some.is c.in-Ok-Some.field-0-is in
    omega (arith, room, taken.0, c.requires.most, c.loop-test.true, length-take c.in-Ok-Some.count c.read_piece.new.piece)

pub refuse_line-requires : goal.refuse_line-requires
refuse_line-requires g c =
    let room = stream_room _ _ c.new.result c.loop.progress.tally c.loop.counter c.loop.held.items _ _ _ _ c.loop.invariant.streaming c.loop.invariant.calls c.loop-test.true in
    let taken = piece_bytes (g.F.Read.remaining c.loop.calls) (g.F.Read.remaining c.read_piece.new.file) c.read_piece.new.piece c.read_piece.result c.in-Ok-Some.field-0 c.in-Ok-Some.count c.read_piece.ensures c.in-Ok-Some.is c.in-Ok-Some.field-0-is in
    let bad = taken_bad c.args.self.now.accepted.now (limits_of c.args.self.now.settings) (c.loop.held.items ++ take c.in-Ok-Some.count c.read_piece.new.piece) c.loop.progress.tally c.take_piece.new.progress.tally c.take_piece.new.held.items (g.O.Write.contents c.loop.out) (g.O.Write.contents c.take_piece.new.out) c.take_piece.result c.in-Ok-Bad.field-0 c.take_piece.ensures c.in-Ok-Bad.is c.in-Ok-Bad.field-0-is in
    refused_room c.args.self.now.accepted.now (limits_of c.args.self.now.settings) (c.loop.held.items ++ take c.in-Ok-Some.count c.read_piece.new.piece) c.loop.progress.tally c.take_piece.new.progress.tally (g.O.Write.contents c.loop.out) (g.O.Write.contents c.take_piece.new.out) bad
    (omega (arith, room, taken.0, c.requires.most, c.loop-test.true, length-append c.loop.held.items (take c.in-Ok-Some.count c.read_piece.new.piece), length-take c.in-Ok-Some.count c.read_piece.new.piece))

pub refuse_line-requires-in-Ok-None : goal.refuse_line-requires-in-Ok-None
refuse_line-requires-in-Ok-None g c =
    let s = c.loop.invariant.streaming in
    let room = stream_room _ _ c.new.result c.loop.progress.tally c.loop.counter c.loop.held.items _ _ _ _ s c.loop.invariant.calls c.loop-test.true in
    omega (arith, room, c.loop-test.true)

pub returns-in-Ok-Bad-clause-written : goal.returns-in-Ok-Bad-clause-written
returns-in-Ok-Bad-clause-written g c =
    let taken = piece_bytes (g.F.Read.remaining c.loop.calls) (g.F.Read.remaining c.read_piece.new.file) c.read_piece.new.piece c.read_piece.result c.in-Ok-Some.field-0 c.in-Ok-Some.count c.read_piece.ensures c.in-Ok-Some.is c.in-Ok-Some.field-0-is in
    let bad = taken_bad c.args.self.now.accepted.now (limits_of c.args.self.now.settings) (c.loop.held.items ++ take c.in-Ok-Some.count c.read_piece.new.piece) c.loop.progress.tally c.take_piece.new.progress.tally c.take_piece.new.held.items (g.O.Write.contents c.loop.out) (g.O.Write.contents c.take_piece.new.out) c.take_piece.result c.in-Ok-Bad.field-0 c.take_piece.ensures c.in-Ok-Bad.is c.in-Ok-Bad.field-0-is in
    let start : IsZero c.new.result = record { calls = c.loop.invariant.calls; counts = c.loop.invariant.counts } in
    stream_refused c.args.self.now.accepted.now (limits_of c.args.self.now.settings) c.refuse_line.result c.new.result c.loop.progress.tally c.take_piece.new.progress.tally c.loop.counter c.loop.held.items (take c.in-Ok-Some.count c.read_piece.new.piece) (g.F.Read.remaining c.args.calls.now) (g.F.Read.remaining c.loop.calls) (g.F.Read.remaining c.read_piece.new.file)
    (g.O.Write.contents c.args.out.now) (g.O.Write.contents c.loop.out) (g.O.Write.contents c.take_piece.new.out) (g.O.Write.contents c.refuse_line.new.out) start c.loop.invariant.streaming taken.1 bad c.refuse_line.ensures.written

pub returns-in-Err-take_piece-clause-written : goal.returns-in-Err-take_piece-clause-written
returns-in-Err-take_piece-clause-written g c =
    let taken = piece_bytes (g.F.Read.remaining c.loop.calls) (g.F.Read.remaining c.read_piece.new.file) c.read_piece.new.piece c.read_piece.result c.in-Ok-Some.field-0 c.in-Ok-Some.count c.read_piece.ensures c.in-Ok-Some.is c.in-Ok-Some.field-0-is in
    let stops = taken_fault c.args.self.now.accepted.now (limits_of c.args.self.now.settings) (c.loop.held.items ++ take c.in-Ok-Some.count c.read_piece.new.piece) c.loop.progress.tally c.take_piece.new.progress.tally c.take_piece.new.held.items (g.O.Write.contents c.loop.out) (g.O.Write.contents c.take_piece.new.out) c.take_piece.result c.in-Err-take_piece.fault c.take_piece.ensures c.in-Err-take_piece.is in
    let start : IsZero c.new.result = record { calls = c.loop.invariant.calls; counts = c.loop.invariant.counts } in
    stream_stopped c.args.self.now.accepted.now (limits_of c.args.self.now.settings) c.in-Err-take_piece.fault c.new.result c.loop.progress.tally c.loop.counter c.loop.held.items (take c.in-Ok-Some.count c.read_piece.new.piece) (g.F.Read.remaining c.args.calls.now) (g.F.Read.remaining c.loop.calls) (g.F.Read.remaining c.read_piece.new.file)
    (g.O.Write.contents c.args.out.now) (g.O.Write.contents c.loop.out) (g.O.Write.contents c.take_piece.new.out) start c.loop.invariant.streaming taken.1 stops

pub returns-then-is_empty-clause-written : goal.returns-then-is_empty-clause-written
returns-then-is_empty-clause-written g c =
    let ended = piece_end (g.F.Read.remaining c.loop.calls) (g.F.Read.remaining c.read_piece.new.file) c.read_piece.new.piece c.read_piece.result c.in-Ok-None.field-0 c.read_piece.ensures c.in-Ok-None.is c.in-Ok-None.field-0-is in
    let empty : length c.loop.held.items ≡ 0 = search rules in
    let start : IsZero c.new.result = record { calls = c.loop.invariant.calls; counts = c.loop.invariant.counts } in
    stream_reported c.args.self.now.accepted.now (limits_of c.args.self.now.settings) c.end_report.result c.new.result c.loop.progress.tally c.loop.counter c.loop.held.items (g.F.Read.remaining c.args.calls.now) (g.F.Read.remaining c.loop.calls) (g.F.Read.remaining c.read_piece.new.file)
    (g.O.Write.contents c.args.out.now) (g.O.Write.contents c.loop.out) (g.O.Write.contents c.end_report.new.out) start c.loop.invariant.streaming empty ended.0 ended.1 c.end_report.ensures.written

pub returns-in-Ok-None-clause-written : goal.returns-in-Ok-None-clause-written
returns-in-Ok-None-clause-written g c =
    let ended = piece_end (g.F.Read.remaining c.loop.calls) (g.F.Read.remaining c.read_piece.new.file) c.read_piece.new.piece c.read_piece.result c.in-Ok-None.field-0 c.read_piece.ensures c.in-Ok-None.is c.in-Ok-None.field-0-is in
    let some : 0 < length c.loop.held.items = search rules in
    let start : IsZero c.new.result = record { calls = c.loop.invariant.calls; counts = c.loop.invariant.counts } in
    stream_unended c.args.self.now.accepted.now (limits_of c.args.self.now.settings) c.refuse_line-in-Ok-None.result c.new.result c.loop.progress.tally c.loop.counter c.loop.held.items (g.F.Read.remaining c.args.calls.now) (g.F.Read.remaining c.loop.calls) (g.F.Read.remaining c.read_piece.new.file)
    (g.O.Write.contents c.args.out.now) (g.O.Write.contents c.loop.out) (g.O.Write.contents c.refuse_line-in-Ok-None.new.out) start c.loop.invariant.streaming some ended.0 ended.1 c.refuse_line-in-Ok-None.ensures.written

pub returns-in-Err-clause-written : goal.returns-in-Err-clause-written
returns-in-Err-clause-written g c =
    let start : IsZero c.new.result = record { calls = c.loop.invariant.calls; counts = c.loop.invariant.counts } in
    stream_fault c.args.self.now.accepted.now (limits_of c.args.self.now.settings) c.in-Err.fault c.new.result c.loop.progress.tally c.loop.counter c.loop.held.items c.read_piece.new.piece (g.F.Read.remaining c.args.calls.now) (g.F.Read.remaining c.loop.calls) (g.F.Read.remaining c.read_piece.new.file) (g.O.Write.contents c.args.out.now) (g.O.Write.contents c.loop.out) start c.loop.invariant.streaming c.in-Err.ensures

pub loop-preserved : goal.loop-preserved
loop-preserved g c =
    let taken = piece_bytes (g.F.Read.remaining c.loop.calls) (g.F.Read.remaining c.read_piece.new.file) c.read_piece.new.piece c.read_piece.result c.in-Ok-Some.field-0 c.in-Ok-Some.count c.read_piece.ensures c.in-Ok-Some.is c.in-Ok-Some.field-0-is in
    let good = taken_good c.args.self.now.accepted.now (limits_of c.args.self.now.settings) (c.loop.held.items ++ take c.in-Ok-Some.count c.read_piece.new.piece) c.loop.progress.tally c.take_piece.new.progress.tally c.take_piece.new.held.items (g.O.Write.contents c.loop.out) (g.O.Write.contents c.take_piece.new.out) c.take_piece.result c.in-Ok-Good.field-0 c.take_piece.ensures c.in-Ok-Good.is c.in-Ok-Good.field-0-is in
    record {
      streaming = stream_more c.args.self.now.accepted.now (limits_of c.args.self.now.settings) c.new.result c.loop.progress.tally c.take_piece.new.progress.tally c.loop.counter c.loop.held.items (take c.in-Ok-Some.count c.read_piece.new.piece) c.take_piece.new.held.items (g.F.Read.remaining c.args.calls.now) (g.F.Read.remaining c.loop.calls) (g.F.Read.remaining c.read_piece.new.file)
          (g.O.Write.contents c.args.out.now) (g.O.Write.contents c.loop.out) (g.O.Write.contents c.take_piece.new.out) c.loop.invariant.streaming taken.1 (omega (arith, taken.0, c.requires.most, length-take c.in-Ok-Some.count c.read_piece.new.piece)) good;
      calls = c.loop.invariant.calls;
      counts = c.loop.invariant.counts;
    }

pub returns-clause-written : goal.returns-clause-written
returns-clause-written g c =
    let start : IsZero c.new.result = record { calls = c.loop.invariant.calls; counts = c.loop.invariant.counts } in
    stream_endless c.args.self.now.accepted.now (limits_of c.args.self.now.settings) c.new.result c.loop.progress.tally c.loop.counter c.loop.held.items (g.F.Read.remaining c.args.calls.now) (g.F.Read.remaining c.loop.calls) (g.O.Write.contents c.args.out.now) (g.O.Write.contents c.loop.out) start c.loop.invariant.streaming
