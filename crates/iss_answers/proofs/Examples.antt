-- Lines and texts on small examples.
use Rattle.std.proofs.Common.{◌≡◌, [], ◌∷◌, ◌++◌, codes, refl, Some, None}
use Rattle.std.specs.Fmt.{digits}
use Rattle.hex.specs.Hex.{encode_with}
use Rattle.iss_request.specs.declared.ids.ReqId.{ReqId}
use Rattle.iss_reply.specs.declared.clients.Refusal.TheVariants.{BadReply, Twice}
use Rattle.iss_reply.specs.declared.clients.Taken.TheVariants.{Accepted, Late, Refused}
use Rattle.iss_reply.specs.declared.replies.Reply.{Reply}
use Rattle.iss_answers.specs.Lines.{reply_line}
use Rattle.iss_answers.specs.Printed.{end_line, taken_line}
use Rattle.iss_answers.specs.Texts.{body_lines}

-- request 1 of client 7, with number 5 in the log, found nothing
abbrev id : ReqId
id = record { client = 7; number = 1 }

abbrev reply : Reply
reply = record {
  by = record { 0 = 2 };
  epoch = record { 0 = 1 };
  q = 5;
  id = id;
  answer = 0 ∷ [];
  sig = [];
}

the_line : reply_line reply ≡ codes "reply 2 1 5 7.1 00 -"
unfolding digits encode_with
the_line = refl

the_lines : body_lines (reply ∷ []) ≡ codes "reply 2 1 5 7.1 00 -" ∷ codes "end" ∷ []
unfolding digits encode_with
the_lines = refl

-- what is printed for the reply in line 12
accepted : taken_line 12 id (Accepted 5 (1 ∷ 98 ∷ [])) ≡ codes "answer 7.1 5 0162" ++ 10 ∷ []
unfolding digits encode_with
accepted = refl

twice : taken_line 13 id (Refused Twice) ≡ codes "drop 13 Twice" ++ 10 ∷ []
unfolding digits
twice = refl

unsigned : taken_line 12 id (Refused BadReply) ≡ codes "drop 12 BadReply" ++ 10 ∷ []
unfolding digits
unsigned = refl

late : taken_line 12 id Late ≡ []
late = refl

one_short : end_line (Some id) ≡ codes "short 7.1" ++ 10 ∷ []
unfolding digits
one_short = refl

none_short : end_line None ≡ codes "end ok" ++ 10 ∷ []
none_short = refl
