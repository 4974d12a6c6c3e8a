use Rattle.std.proofs.Common.{◌≡◌, ◌++◌, [], length, take, drop}
use Rattle.iss_schedule.specs.Headers.{header_fields, lines_of}
use Rattle.iss_schedule.specs.Words.{ended}
use Rattle.iss_schedule.proofs.HeaderTable.FieldsDetermineValues.{AreSome}
use Rattle.iss_schedule.proofs.header.read_header.Given as goal

abbrev pub invariant-loop-place : goal.invariant-loop-place
invariant-loop-place l = record {
  size : length l.values ≡ 10;
  text : l.initial.lines.rest ≡ ended (lines_of header_fields (take l.place l.values)) ++ l.lines.rest;
  some : AreSome header_fields [] (take l.place l.values) (drop l.place header_fields);
  read : l.lines.read ≡ l.place;
}
