-- A node's digest must show its view. The variant of chained HotStuff whose nodes' strings leave it out is not safe: in
-- the reached world below, a Byzantine leader makes two correct replicas deliver different values.
--
-- Nodes of the tree, by the views in which they are proposed: h of round 0 holds a batch, z, u and y hold nil.
--
--     root -- z (1, 3) -- y (4) -- x (5) -- a (6)               replica 0 sees x certified, and delivers z
--     root -- h -- u (2, 7) -- s (8) -- t (9) -- v (10)         replica 2 sees t certified, and delivers h and u
--
-- z is certified in view 1 and u in view 2. Replica 0 takes z in view 3 only, and replica 2 takes u in view 7 only, since
-- a node that is proposed again is the same node. So each sees three nodes of consecutive views. Replica 1 votes for x,
-- which locks it on z by the certificate of view 1; that of u is of a higher view, so s is safe for it.
use Rattle.std.proofs.Common.{◌≡◌, ◌<◌, ◌^◌, ℕ, Bool, true, false, cond, eqb, List, [], ◌∷◌, replicate, Some, refl, sym, subst, inl, inr, arith}
use Rattle.sha2.specs.Sha256.{sha256, digest_bytes, hash_after, compress, rounds, schedule, first_words}
use Rattle.iss_base.specs.Lists.{In}
use Rattle.iss_request.specs.Digest.{digest}
use Rattle.iss_request.specs.Formats.{spell_batch, spell_count, spell_value, value_string}
use Rattle.iss_request.specs.declared.requests.Value.{Value}
use Rattle.iss_request.specs.declared.requests.Value.TheVariants.{Nil as Value_nil, Batch as Value_batch}
use Rattle.iss_sb.specs.Calls.{IsGoodParams}
use Rattle.iss_sb.specs.Evidence.{Item, World, IsCredible, IsReached, IsReadMessage, IsSigned, IsString, Separate, Verifies, and_then, delivered, empty_world}
use Rattle.iss_sb.specs.Laws.{IsBroadcast}
use Rattle.iss_sb.specs.Statements.{signature, wide_bytes}
use Rattle.iss_sb.proofs.Signatures.{signature-shape}
use Rattle.iss_sb.specs.declared.content.Content.{Content}
use Rattle.iss_sb.specs.declared.content.Content.TheVariants.{Nil, Holds, Mark}
use Rattle.hs_tree.specs.declared.certificates.Certificate.{Certificate}
use Rattle.hs_tree.specs.declared.certificates.Certificate.TheVariants.{Root}
use Rattle.hs_tree.specs.declared.messages.Message.{Message}
use Rattle.hs_tree.specs.declared.messages.Body.TheVariants.{Prepare}
use Rattle.hs_tree.specs.Messages.{signed}
use Rattle.hs_tree.specs.Certificates.{root_row}
use Rattle.hs_tree.specs.Statements.{stated}
use Rattle.hs_tree.specs.Tree.{plain_string, root}
use Rattle.hs_tree.proofs.MessageGrammar.{spelled-read}
use Rattle.hs_views.proofs.SmallWorlds.{IsOneOf, all_differ, one-takes, separate-by, starts, two-takes, world, zero-takes}
use Rattle.hs_views.proofs.Tests.{AreStrings, each-string}
use Rattle.sb_chained.specs.Variants.{IsNotSafe}
use Rattle.sb_chained.proofs.Examples.ByzantineLeader.{and_own, alone, batch_held, cites, good-setup, liar, q, sent, shown, shown-spelled, signs, states, told, voted}
use Rattle.sb_chained.proofs.Examples.Runs.{b}
use Rattle.counterexamples.specs.Chained.{makes, viewless, without_views}

good : IsGoodParams without_views q
good = record {
  setup = good-setup;
  kind = refl;
  nodes = refl;
  majority = refl;
  leader = omega arith;
  some = omega arith;
  few = omega arith;
  ascending = (omega arith, (omega arith, tt));
  slots_low = (omega arith, (omega arith, tt));
  directory = refl;
}

-- ---- The digests of the nodes, computed by another program

abbrev d_h : List ℕ
d_h = 209 ∷ 172 ∷ 149 ∷ 109 ∷ 77 ∷ 7 ∷ 73 ∷ 170 ∷ 118 ∷ 197 ∷ 2 ∷ 172 ∷ 122 ∷ 47 ∷ 137 ∷ 163 ∷ 37 ∷ 250 ∷ 53 ∷ 61 ∷ 104 ∷ 232 ∷ 111 ∷ 61 ∷ 57 ∷ 0 ∷ 237 ∷ 69 ∷ 207 ∷ 169 ∷ 33 ∷ 190 ∷ []

abbrev d_z : List ℕ
d_z = 51 ∷ 20 ∷ 178 ∷ 73 ∷ 231 ∷ 42 ∷ 170 ∷ 105 ∷ 36 ∷ 248 ∷ 249 ∷ 124 ∷ 150 ∷ 129 ∷ 40 ∷ 91 ∷ 59 ∷ 26 ∷ 5 ∷ 194 ∷ 81 ∷ 41 ∷ 210 ∷ 161 ∷ 164 ∷ 250 ∷ 216 ∷ 143 ∷ 213 ∷ 166 ∷ 120 ∷ 18 ∷ []

abbrev d_u : List ℕ
d_u = 201 ∷ 4 ∷ 109 ∷ 100 ∷ 10 ∷ 155 ∷ 239 ∷ 106 ∷ 142 ∷ 137 ∷ 232 ∷ 105 ∷ 205 ∷ 31 ∷ 13 ∷ 131 ∷ 41 ∷ 130 ∷ 162 ∷ 195 ∷ 212 ∷ 87 ∷ 148 ∷ 61 ∷ 189 ∷ 142 ∷ 127 ∷ 215 ∷ 161 ∷ 122 ∷ 19 ∷ 114 ∷ []

abbrev d_y : List ℕ
d_y = 29 ∷ 33 ∷ 169 ∷ 126 ∷ 197 ∷ 5 ∷ 210 ∷ 123 ∷ 3 ∷ 99 ∷ 162 ∷ 32 ∷ 71 ∷ 125 ∷ 140 ∷ 82 ∷ 94 ∷ 155 ∷ 255 ∷ 68 ∷ 72 ∷ 172 ∷ 212 ∷ 173 ∷ 94 ∷ 25 ∷ 19 ∷ 234 ∷ 60 ∷ 48 ∷ 15 ∷ 248 ∷ []

abbrev d_x : List ℕ
d_x = 2 ∷ 91 ∷ 133 ∷ 43 ∷ 60 ∷ 60 ∷ 164 ∷ 3 ∷ 96 ∷ 60 ∷ 2 ∷ 253 ∷ 72 ∷ 5 ∷ 178 ∷ 59 ∷ 209 ∷ 190 ∷ 167 ∷ 238 ∷ 79 ∷ 215 ∷ 181 ∷ 34 ∷ 13 ∷ 69 ∷ 184 ∷ 163 ∷ 76 ∷ 182 ∷ 175 ∷ 164 ∷ []

abbrev d_a : List ℕ
d_a = 225 ∷ 248 ∷ 71 ∷ 23 ∷ 253 ∷ 37 ∷ 107 ∷ 55 ∷ 161 ∷ 148 ∷ 181 ∷ 111 ∷ 252 ∷ 246 ∷ 47 ∷ 114 ∷ 104 ∷ 160 ∷ 162 ∷ 152 ∷ 172 ∷ 169 ∷ 227 ∷ 35 ∷ 12 ∷ 243 ∷ 72 ∷ 31 ∷ 55 ∷ 154 ∷ 128 ∷ 40 ∷ []

abbrev d_s : List ℕ
d_s = 141 ∷ 151 ∷ 55 ∷ 193 ∷ 200 ∷ 180 ∷ 13 ∷ 184 ∷ 18 ∷ 91 ∷ 47 ∷ 186 ∷ 253 ∷ 213 ∷ 183 ∷ 144 ∷ 82 ∷ 248 ∷ 0 ∷ 191 ∷ 166 ∷ 73 ∷ 35 ∷ 22 ∷ 207 ∷ 106 ∷ 106 ∷ 40 ∷ 140 ∷ 149 ∷ 124 ∷ 229 ∷ []

abbrev d_t : List ℕ
d_t = 142 ∷ 89 ∷ 83 ∷ 55 ∷ 237 ∷ 221 ∷ 146 ∷ 126 ∷ 161 ∷ 191 ∷ 130 ∷ 39 ∷ 211 ∷ 145 ∷ 3 ∷ 240 ∷ 238 ∷ 192 ∷ 213 ∷ 199 ∷ 102 ∷ 107 ∷ 113 ∷ 145 ∷ 207 ∷ 21 ∷ 163 ∷ 153 ∷ 218 ∷ 164 ∷ 82 ∷ 40 ∷ []

abbrev d_v : List ℕ
d_v = 231 ∷ 154 ∷ 65 ∷ 83 ∷ 189 ∷ 51 ∷ 199 ∷ 235 ∷ 191 ∷ 41 ∷ 184 ∷ 201 ∷ 249 ∷ 248 ∷ 236 ∷ 200 ∷ 91 ∷ 104 ∷ 138 ∷ 116 ∷ 70 ∷ 205 ∷ 137 ∷ 46 ∷ 118 ∷ 70 ∷ 204 ∷ 228 ∷ 107 ∷ 64 ∷ 160 ∷ 116 ∷ []

-- ---- The messages

abbrev own : ℕ → Content → Certificate → List ℕ
own view what just = stated viewless q (Prepare view what just)

abbrev proposal : ℕ → Content → Certificate → Message
proposal view what just = signed (Prepare view what just) (signature q 3 0 (own view what just))

abbrev c_h : Certificate
c_h = shown 1 d_h 1 0 2 0

abbrev c_z : Certificate
c_z = shown 262145 d_z 1 1 2 1

abbrev c_u : Certificate
c_u = shown 262146 d_u 0 1 1 2

abbrev c_y : Certificate
c_y = shown 262148 d_y 0 3 1 3

abbrev c_x : Certificate
c_x = shown 262149 d_x 0 4 1 4

abbrev c_s : Certificate
c_s = shown 262152 d_s 1 5 2 3

abbrev c_t : Certificate
c_t = shown 262153 d_t 1 6 2 4

abbrev m_h : Message
m_h = proposal 1 (Holds b) Root

abbrev m_z : Message
m_z = proposal 262145 Nil Root

abbrev m_u : Message
m_u = proposal 262146 Nil c_h

abbrev m_z2 : Message
m_z2 = proposal 262147 Nil Root

abbrev m_y : Message
m_y = proposal 262148 Nil c_z

abbrev m_x : Message
m_x = proposal 262149 Mark c_y

abbrev m_a : Message
m_a = proposal 262150 Mark c_x

abbrev m_u2 : Message
m_u2 = proposal 262151 Nil c_h

abbrev m_s : Message
m_s = proposal 262152 Mark c_u

abbrev m_t : Message
m_t = proposal 262153 Mark c_s

abbrev m_v : Message
m_v = proposal 262154 Mark c_t

-- ---- What the replicas take, by their numbers

abbrev took0_1 : List (Item Message)
took0_1 = and_then without_views q 0 [] (told m_h) 0

abbrev took0_2 : List (Item Message)
took0_2 = and_then without_views q 0 took0_1 (told m_u) 1

abbrev took0_3 : List (Item Message)
took0_3 = and_then without_views q 0 took0_2 (told m_z2) 2

abbrev took0_4 : List (Item Message)
took0_4 = and_then without_views q 0 took0_3 (told m_y) 3

abbrev took0_5 : List (Item Message)
took0_5 = and_then without_views q 0 took0_4 (told m_x) 4

abbrev took0_6 : List (Item Message)
took0_6 = and_then without_views q 0 took0_5 (told m_a) 5

abbrev took1_1 : List (Item Message)
took1_1 = and_then without_views q 1 [] (told m_h) 0

abbrev took1_2 : List (Item Message)
took1_2 = and_then without_views q 1 took1_1 (told m_z) 1

abbrev took1_3 : List (Item Message)
took1_3 = and_then without_views q 1 took1_2 (told m_u) 2

abbrev took1_4 : List (Item Message)
took1_4 = and_then without_views q 1 took1_3 (told m_y) 3

abbrev took1_5 : List (Item Message)
took1_5 = and_then without_views q 1 took1_4 (told m_x) 4

abbrev took1_6 : List (Item Message)
took1_6 = and_then without_views q 1 took1_5 (told m_s) 5

abbrev took1_7 : List (Item Message)
took1_7 = and_then without_views q 1 took1_6 (told m_t) 6

abbrev took2_1 : List (Item Message)
took2_1 = and_then without_views q 2 [] (told m_h) 0

abbrev took2_2 : List (Item Message)
took2_2 = and_then without_views q 2 took2_1 (told m_z) 1

abbrev took2_3 : List (Item Message)
took2_3 = and_then without_views q 2 took2_2 (told m_u2) 2

abbrev took2_4 : List (Item Message)
took2_4 = and_then without_views q 2 took2_3 (told m_s) 3

abbrev took2_5 : List (Item Message)
took2_5 = and_then without_views q 2 took2_4 (told m_t) 4

abbrev took2_6 : List (Item Message)
took2_6 = and_then without_views q 2 took2_5 (told m_v) 5

votes-1-h : (makes q 1 [] (told m_h) 0).sends ≡ sent 1 1 d_h 0
unfolding sha256 digest_bytes hash_after compress rounds schedule first_words spell_batch spell_count spell_value wide_bytes
votes-1-h = refl

votes-2-h : (makes q 2 [] (told m_h) 0).sends ≡ sent 2 1 d_h 0
unfolding sha256 digest_bytes hash_after compress rounds schedule first_words spell_batch spell_count spell_value wide_bytes
votes-2-h = refl

votes-1-z : (makes q 1 took1_1 (told m_z) 1).sends ≡ sent 1 262145 d_z 1
unfolding sha256 digest_bytes hash_after compress rounds schedule first_words spell_batch spell_count spell_value wide_bytes
votes-1-z = refl

votes-2-z : (makes q 2 took2_1 (told m_z) 1).sends ≡ sent 2 262145 d_z 1
unfolding sha256 digest_bytes hash_after compress rounds schedule first_words spell_batch spell_count spell_value wide_bytes
votes-2-z = refl

votes-0-u : (makes q 0 took0_1 (told m_u) 1).sends ≡ sent 0 262146 d_u 1
unfolding sha256 digest_bytes hash_after compress rounds schedule first_words spell_batch spell_count spell_value wide_bytes
votes-0-u = refl

votes-1-u : (makes q 1 took1_2 (told m_u) 2).sends ≡ sent 1 262146 d_u 2
unfolding sha256 digest_bytes hash_after compress rounds schedule first_words spell_batch spell_count spell_value wide_bytes
votes-1-u = refl

votes-0-y : (makes q 0 took0_3 (told m_y) 3).sends ≡ sent 0 262148 d_y 3
unfolding sha256 digest_bytes hash_after compress rounds schedule first_words spell_batch spell_count spell_value wide_bytes
votes-0-y = refl

votes-1-y : (makes q 1 took1_3 (told m_y) 3).sends ≡ sent 1 262148 d_y 3
unfolding sha256 digest_bytes hash_after compress rounds schedule first_words spell_batch spell_count spell_value wide_bytes
votes-1-y = refl

votes-0-x : (makes q 0 took0_4 (told m_x) 4).sends ≡ sent 0 262149 d_x 4
unfolding sha256 digest_bytes hash_after compress rounds schedule first_words spell_batch spell_count spell_value wide_bytes
votes-0-x = refl

votes-1-x : (makes q 1 took1_4 (told m_x) 4).sends ≡ sent 1 262149 d_x 4
unfolding sha256 digest_bytes hash_after compress rounds schedule first_words spell_batch spell_count spell_value wide_bytes
votes-1-x = refl

votes-1-s : (makes q 1 took1_5 (told m_s) 5).sends ≡ sent 1 262152 d_s 5
unfolding sha256 digest_bytes hash_after compress rounds schedule first_words spell_batch spell_count spell_value wide_bytes
votes-1-s = refl

votes-2-s : (makes q 2 took2_3 (told m_s) 3).sends ≡ sent 2 262152 d_s 3
unfolding sha256 digest_bytes hash_after compress rounds schedule first_words spell_batch spell_count spell_value wide_bytes
votes-2-s = refl

votes-1-t : (makes q 1 took1_6 (told m_t) 6).sends ≡ sent 1 262153 d_t 6
unfolding sha256 digest_bytes hash_after compress rounds schedule first_words spell_batch spell_count spell_value wide_bytes
votes-1-t = refl

votes-2-t : (makes q 2 took2_4 (told m_t) 4).sends ≡ sent 2 262153 d_t 4
unfolding sha256 digest_bytes hash_after compress rounds schedule first_words spell_batch spell_count spell_value wide_bytes
votes-2-t = refl

delivers-0 : delivered without_views q 0 took0_6 0 ≡ Some Value_nil
unfolding sha256 digest_bytes hash_after compress rounds schedule first_words spell_batch spell_count spell_value wide_bytes
delivers-0 = refl

delivers-2 : delivered without_views q 2 took2_6 0 ≡ Some (Value_batch b)
unfolding sha256 digest_bytes hash_after compress rounds schedule first_words spell_batch spell_count spell_value wide_bytes
delivers-2 = refl

-- ---- The messages can be decoded, and their signatures are valid

abbrev IsRead : Message → Type 0
IsRead msg = IsReadMessage without_views q msg

read-h : IsRead m_h
read-h = spelled-read 1 1 m_h _ (record { view_fits = omega arith; behind = batch_held.0; what_is = batch_held.1; certificate = root_row; spelled = refl; row = refl }) (signature-shape without_views q good 3 0 (own 1 (Holds b) Root))

read-z : IsRead m_z
read-z = spelled-read 1 1 m_z _ (record { view_fits = omega arith; behind = _; what_is = refl; certificate = root_row; spelled = refl; row = refl }) (signature-shape without_views q good 3 0 (own 262145 Nil Root))

read-u : IsRead m_u
read-u = spelled-read 1 1 m_u _ (record { view_fits = omega arith; behind = _; what_is = refl; certificate = _; spelled = shown-spelled 1 d_h 1 0 2 0 (omega arith) (omega arith) refl (omega arith) (omega arith); row = refl }) (signature-shape without_views q good 3 0 (own 262146 Nil c_h))

read-z2 : IsRead m_z2
read-z2 = spelled-read 1 1 m_z2 _ (record { view_fits = omega arith; behind = _; what_is = refl; certificate = root_row; spelled = refl; row = refl }) (signature-shape without_views q good 3 0 (own 262147 Nil Root))

read-y : IsRead m_y
read-y = spelled-read 1 1 m_y _ (record { view_fits = omega arith; behind = _; what_is = refl; certificate = _; spelled = shown-spelled 262145 d_z 1 1 2 1 (omega arith) (omega arith) refl (omega arith) (omega arith); row = refl }) (signature-shape without_views q good 3 0 (own 262148 Nil c_z))

read-x : IsRead m_x
read-x = spelled-read 1 1 m_x _ (record { view_fits = omega arith; behind = _; what_is = refl; certificate = _; spelled = shown-spelled 262148 d_y 0 3 1 3 (omega arith) (omega arith) refl (omega arith) (omega arith); row = refl }) (signature-shape without_views q good 3 0 (own 262149 Mark c_y))

read-a : IsRead m_a
read-a = spelled-read 1 1 m_a _ (record { view_fits = omega arith; behind = _; what_is = refl; certificate = _; spelled = shown-spelled 262149 d_x 0 4 1 4 (omega arith) (omega arith) refl (omega arith) (omega arith); row = refl }) (signature-shape without_views q good 3 0 (own 262150 Mark c_x))

read-u2 : IsRead m_u2
read-u2 = spelled-read 1 1 m_u2 _ (record { view_fits = omega arith; behind = _; what_is = refl; certificate = _; spelled = shown-spelled 1 d_h 1 0 2 0 (omega arith) (omega arith) refl (omega arith) (omega arith); row = refl }) (signature-shape without_views q good 3 0 (own 262151 Nil c_h))

read-s : IsRead m_s
read-s = spelled-read 1 1 m_s _ (record { view_fits = omega arith; behind = _; what_is = refl; certificate = _; spelled = shown-spelled 262146 d_u 0 1 1 2 (omega arith) (omega arith) refl (omega arith) (omega arith); row = refl }) (signature-shape without_views q good 3 0 (own 262152 Mark c_u))

read-t : IsRead m_t
read-t = spelled-read 1 1 m_t _ (record { view_fits = omega arith; behind = _; what_is = refl; certificate = _; spelled = shown-spelled 262152 d_s 1 5 2 3 (omega arith) (omega arith) refl (omega arith) (omega arith); row = refl }) (signature-shape without_views q good 3 0 (own 262153 Mark c_s))

read-v : IsRead m_v
read-v = spelled-read 1 1 m_v _ (record { view_fits = omega arith; behind = _; what_is = refl; certificate = _; spelled = shown-spelled 262153 d_t 1 6 2 4 (omega arith) (omega arith) refl (omega arith) (omega arith); row = refl }) (signature-shape without_views q good 3 0 (own 262154 Mark c_t))

abbrev Comes : World Message → Message → Type 0
Comes w msg = IsCredible without_views q (Verifies q) (IsSigned without_views q w) 3 msg

-- a proposal on a certificate, once its votes are signed
shows-come : (w : World Message) (view : ℕ) (d : List ℕ) (i at j other : ℕ) (msg : Message) (statement : List ℕ) → i < 4 → at < 2 ^ 4 → j < 4 → other < 2 ^ 4 → IsRead msg →
    IsSigned without_views q w i (states view d) → IsSigned without_views q w j (states view d) → without_views.claims q 3 msg ≡ and_own view d i at j other (signs 3 0 statement) → Comes w msg
shows-come w view d i at j other msg statement li la lj lo read si sj e =
    cites without_views w view d i at j other li la lj lo si sj 3 msg (signs 3 0 statement) (omega arith) read e (liar without_views w statement)

-- a proposal on the root, which claims only its own signature
first-comes : (w : World Message) (msg : Message) (statement : List ℕ) → IsRead msg → without_views.claims q 3 msg ≡ signs 3 0 statement ∷ [] → Comes w msg
first-comes w msg statement read e = alone without_views w 3 msg (signs 3 0 statement) (omega arith) read e (liar without_views w statement)

-- a vote in a replica's history was signed
signed-by : (w : World Message) (k : ℕ) (x : Item Message) (view : ℕ) (d : List ℕ) (leaf : ℕ) → In x (w k) → x.made.sends ≡ sent k view d leaf → IsSigned without_views q w k (states view d)
signed-by w k x view d leaf h e = voted without_views w k view d leaf x h e (inl refl)

-- ---- The run

come-1 : Comes empty_world m_h
come-1 = first-comes empty_world m_h (own 1 (Holds b) Root) read-h refl

reached-1 : IsReached without_views q (world took0_1 [] [])
reached-1 = starts without_views q refl (told m_h) 0 come-1

come-2 : Comes (world took0_1 [] []) m_h
come-2 = first-comes (world took0_1 [] []) m_h (own 1 (Holds b) Root) read-h refl

reached-2 : IsReached without_views q (world took0_1 took1_1 [])
reached-2 = one-takes without_views q took0_1 [] [] reached-1 (told m_h) 0 refl come-2

come-3 : Comes (world took0_1 took1_1 []) m_h
come-3 = first-comes (world took0_1 took1_1 []) m_h (own 1 (Holds b) Root) read-h refl

reached-3 : IsReached without_views q (world took0_1 took1_1 took2_1)
reached-3 = two-takes without_views q took0_1 took1_1 [] reached-2 (told m_h) 0 refl come-3

come-4 : Comes (world took0_1 took1_1 took2_1) m_z
come-4 = first-comes (world took0_1 took1_1 took2_1) m_z (own 262145 Nil Root) read-z refl

reached-4 : IsReached without_views q (world took0_1 took1_2 took2_1)
reached-4 = one-takes without_views q took0_1 took1_1 took2_1 reached-3 (told m_z) 1 refl come-4

come-5 : Comes (world took0_1 took1_2 took2_1) m_z
come-5 = first-comes (world took0_1 took1_2 took2_1) m_z (own 262145 Nil Root) read-z refl

reached-5 : IsReached without_views q (world took0_1 took1_2 took2_2)
reached-5 = two-takes without_views q took0_1 took1_2 took2_1 reached-4 (told m_z) 1 refl come-5

come-6 : Comes (world took0_1 took1_2 took2_2) m_u
come-6 = shows-come (world took0_1 took1_2 took2_2) 1 d_h 1 0 2 0 m_u (own 262146 Nil c_h) (omega arith) (omega arith) (omega arith) (omega arith) read-u (signed-by (world took0_1 took1_2 took2_2) 1 _ 1 d_h 0 (inr (inl refl)) votes-1-h) (signed-by (world took0_1 took1_2 took2_2) 2 _ 1 d_h 0 (inr (inl refl)) votes-2-h) refl

reached-6 : IsReached without_views q (world took0_2 took1_2 took2_2)
reached-6 = zero-takes without_views q took0_1 took1_2 took2_2 reached-5 (told m_u) 1 refl come-6

come-7 : Comes (world took0_2 took1_2 took2_2) m_u
come-7 = shows-come (world took0_2 took1_2 took2_2) 1 d_h 1 0 2 0 m_u (own 262146 Nil c_h) (omega arith) (omega arith) (omega arith) (omega arith) read-u (signed-by (world took0_2 took1_2 took2_2) 1 _ 1 d_h 0 (inr (inl refl)) votes-1-h) (signed-by (world took0_2 took1_2 took2_2) 2 _ 1 d_h 0 (inr (inl refl)) votes-2-h) refl

reached-7 : IsReached without_views q (world took0_2 took1_3 took2_2)
reached-7 = one-takes without_views q took0_2 took1_2 took2_2 reached-6 (told m_u) 2 refl come-7

come-8 : Comes (world took0_2 took1_3 took2_2) m_z2
come-8 = first-comes (world took0_2 took1_3 took2_2) m_z2 (own 262147 Nil Root) read-z2 refl

reached-8 : IsReached without_views q (world took0_3 took1_3 took2_2)
reached-8 = zero-takes without_views q took0_2 took1_3 took2_2 reached-7 (told m_z2) 2 refl come-8

come-9 : Comes (world took0_3 took1_3 took2_2) m_y
come-9 = shows-come (world took0_3 took1_3 took2_2) 262145 d_z 1 1 2 1 m_y (own 262148 Nil c_z) (omega arith) (omega arith) (omega arith) (omega arith) read-y (signed-by (world took0_3 took1_3 took2_2) 1 _ 262145 d_z 1 (inr (inl refl)) votes-1-z) (signed-by (world took0_3 took1_3 took2_2) 2 _ 262145 d_z 1 (inl refl) votes-2-z) refl

reached-9 : IsReached without_views q (world took0_4 took1_3 took2_2)
reached-9 = zero-takes without_views q took0_3 took1_3 took2_2 reached-8 (told m_y) 3 refl come-9

come-10 : Comes (world took0_4 took1_3 took2_2) m_y
come-10 = shows-come (world took0_4 took1_3 took2_2) 262145 d_z 1 1 2 1 m_y (own 262148 Nil c_z) (omega arith) (omega arith) (omega arith) (omega arith) read-y (signed-by (world took0_4 took1_3 took2_2) 1 _ 262145 d_z 1 (inr (inl refl)) votes-1-z) (signed-by (world took0_4 took1_3 took2_2) 2 _ 262145 d_z 1 (inl refl) votes-2-z) refl

reached-10 : IsReached without_views q (world took0_4 took1_4 took2_2)
reached-10 = one-takes without_views q took0_4 took1_3 took2_2 reached-9 (told m_y) 3 refl come-10

come-11 : Comes (world took0_4 took1_4 took2_2) m_x
come-11 = shows-come (world took0_4 took1_4 took2_2) 262148 d_y 0 3 1 3 m_x (own 262149 Mark c_y) (omega arith) (omega arith) (omega arith) (omega arith) read-x (signed-by (world took0_4 took1_4 took2_2) 0 _ 262148 d_y 3 (inl refl) votes-0-y) (signed-by (world took0_4 took1_4 took2_2) 1 _ 262148 d_y 3 (inl refl) votes-1-y) refl

reached-11 : IsReached without_views q (world took0_5 took1_4 took2_2)
reached-11 = zero-takes without_views q took0_4 took1_4 took2_2 reached-10 (told m_x) 4 refl come-11

come-12 : Comes (world took0_5 took1_4 took2_2) m_x
come-12 = shows-come (world took0_5 took1_4 took2_2) 262148 d_y 0 3 1 3 m_x (own 262149 Mark c_y) (omega arith) (omega arith) (omega arith) (omega arith) read-x (signed-by (world took0_5 took1_4 took2_2) 0 _ 262148 d_y 3 (inr (inl refl)) votes-0-y) (signed-by (world took0_5 took1_4 took2_2) 1 _ 262148 d_y 3 (inl refl) votes-1-y) refl

reached-12 : IsReached without_views q (world took0_5 took1_5 took2_2)
reached-12 = one-takes without_views q took0_5 took1_4 took2_2 reached-11 (told m_x) 4 refl come-12

come-13 : Comes (world took0_5 took1_5 took2_2) m_a
come-13 = shows-come (world took0_5 took1_5 took2_2) 262149 d_x 0 4 1 4 m_a (own 262150 Mark c_x) (omega arith) (omega arith) (omega arith) (omega arith) read-a (signed-by (world took0_5 took1_5 took2_2) 0 _ 262149 d_x 4 (inl refl) votes-0-x) (signed-by (world took0_5 took1_5 took2_2) 1 _ 262149 d_x 4 (inl refl) votes-1-x) refl

reached-13 : IsReached without_views q (world took0_6 took1_5 took2_2)
reached-13 = zero-takes without_views q took0_5 took1_5 took2_2 reached-12 (told m_a) 5 refl come-13

come-14 : Comes (world took0_6 took1_5 took2_2) m_u2
come-14 = shows-come (world took0_6 took1_5 took2_2) 1 d_h 1 0 2 0 m_u2 (own 262151 Nil c_h) (omega arith) (omega arith) (omega arith) (omega arith) read-u2 (signed-by (world took0_6 took1_5 took2_2) 1 _ 1 d_h 0 (inr (inr (inr (inr (inl refl))))) votes-1-h) (signed-by (world took0_6 took1_5 took2_2) 2 _ 1 d_h 0 (inr (inl refl)) votes-2-h) refl

reached-14 : IsReached without_views q (world took0_6 took1_5 took2_3)
reached-14 = two-takes without_views q took0_6 took1_5 took2_2 reached-13 (told m_u2) 2 refl come-14

come-15 : Comes (world took0_6 took1_5 took2_3) m_s
come-15 = shows-come (world took0_6 took1_5 took2_3) 262146 d_u 0 1 1 2 m_s (own 262152 Mark c_u) (omega arith) (omega arith) (omega arith) (omega arith) read-s (signed-by (world took0_6 took1_5 took2_3) 0 _ 262146 d_u 1 (inr (inr (inr (inr (inl refl))))) votes-0-u) (signed-by (world took0_6 took1_5 took2_3) 1 _ 262146 d_u 2 (inr (inr (inl refl))) votes-1-u) refl

reached-15 : IsReached without_views q (world took0_6 took1_6 took2_3)
reached-15 = one-takes without_views q took0_6 took1_5 took2_3 reached-14 (told m_s) 5 refl come-15

come-16 : Comes (world took0_6 took1_6 took2_3) m_s
come-16 = shows-come (world took0_6 took1_6 took2_3) 262146 d_u 0 1 1 2 m_s (own 262152 Mark c_u) (omega arith) (omega arith) (omega arith) (omega arith) read-s (signed-by (world took0_6 took1_6 took2_3) 0 _ 262146 d_u 1 (inr (inr (inr (inr (inl refl))))) votes-0-u) (signed-by (world took0_6 took1_6 took2_3) 1 _ 262146 d_u 2 (inr (inr (inr (inl refl)))) votes-1-u) refl

reached-16 : IsReached without_views q (world took0_6 took1_6 took2_4)
reached-16 = two-takes without_views q took0_6 took1_6 took2_3 reached-15 (told m_s) 3 refl come-16

come-17 : Comes (world took0_6 took1_6 took2_4) m_t
come-17 = shows-come (world took0_6 took1_6 took2_4) 262152 d_s 1 5 2 3 m_t (own 262153 Mark c_s) (omega arith) (omega arith) (omega arith) (omega arith) read-t (signed-by (world took0_6 took1_6 took2_4) 1 _ 262152 d_s 5 (inl refl) votes-1-s) (signed-by (world took0_6 took1_6 took2_4) 2 _ 262152 d_s 3 (inl refl) votes-2-s) refl

reached-17 : IsReached without_views q (world took0_6 took1_7 took2_4)
reached-17 = one-takes without_views q took0_6 took1_6 took2_4 reached-16 (told m_t) 6 refl come-17

come-18 : Comes (world took0_6 took1_7 took2_4) m_t
come-18 = shows-come (world took0_6 took1_7 took2_4) 262152 d_s 1 5 2 3 m_t (own 262153 Mark c_s) (omega arith) (omega arith) (omega arith) (omega arith) read-t (signed-by (world took0_6 took1_7 took2_4) 1 _ 262152 d_s 5 (inr (inl refl)) votes-1-s) (signed-by (world took0_6 took1_7 took2_4) 2 _ 262152 d_s 3 (inl refl) votes-2-s) refl

reached-18 : IsReached without_views q (world took0_6 took1_7 took2_5)
reached-18 = two-takes without_views q took0_6 took1_7 took2_4 reached-17 (told m_t) 4 refl come-18

come-19 : Comes (world took0_6 took1_7 took2_5) m_v
come-19 = shows-come (world took0_6 took1_7 took2_5) 262153 d_t 1 6 2 4 m_v (own 262154 Mark c_t) (omega arith) (omega arith) (omega arith) (omega arith) read-v (signed-by (world took0_6 took1_7 took2_5) 1 _ 262153 d_t 6 (inl refl) votes-1-t) (signed-by (world took0_6 took1_7 took2_5) 2 _ 262153 d_t 4 (inl refl) votes-2-t) refl

reached-19 : IsReached without_views q (world took0_6 took1_7 took2_6)
reached-19 = two-takes without_views q took0_6 took1_7 took2_5 reached-18 (told m_v) 5 refl come-19

-- ---- SHA-256 does not collide on its strings: two values' and nine nodes'

abbrev value : List ℕ
value = value_string 1 (Value_batch b)

abbrev nil : List ℕ
nil = value_string 1 Value_nil

abbrev s_h : List ℕ
s_h = plain_string 1 0 root (Holds b)

abbrev s_z : List ℕ
s_z = plain_string 1 0 root Nil

abbrev s_u : List ℕ
s_u = plain_string 1 0 d_h Nil

abbrev s_y : List ℕ
s_y = plain_string 1 0 d_z Nil

abbrev s_x : List ℕ
s_x = plain_string 1 0 d_y Mark

abbrev s_a : List ℕ
s_a = plain_string 1 0 d_x Mark

abbrev s_s : List ℕ
s_s = plain_string 1 0 d_u Mark

abbrev s_t : List ℕ
s_t = plain_string 1 0 d_s Mark

abbrev s_v : List ℕ
s_v = plain_string 1 0 d_t Mark

abbrev d_value : List ℕ
d_value = 153 ∷ 249 ∷ 227 ∷ 138 ∷ 12 ∷ 112 ∷ 47 ∷ 234 ∷ 193 ∷ 248 ∷ 131 ∷ 69 ∷ 120 ∷ 191 ∷ 171 ∷ 95 ∷ 188 ∷ 142 ∷ 189 ∷ 158 ∷ 232 ∷ 186 ∷ 78 ∷ 223 ∷ 107 ∷ 7 ∷ 134 ∷ 227 ∷ 98 ∷ 16 ∷ 18 ∷ 220 ∷ []

abbrev d_nil : List ℕ
d_nil = 238 ∷ 196 ∷ 18 ∷ 31 ∷ 42 ∷ 7 ∷ 182 ∷ 26 ∷ 186 ∷ 22 ∷ 65 ∷ 72 ∷ 18 ∷ 170 ∷ 154 ∷ 252 ∷ 57 ∷ 171 ∷ 10 ∷ 19 ∷ 99 ∷ 96 ∷ 165 ∷ 172 ∷ 226 ∷ 36 ∷ 13 ∷ 193 ∷ 155 ∷ 4 ∷ 100 ∷ 235 ∷ []

-- each string with its digest
abbrev pairs : List (List ℕ × List ℕ)
pairs = ([], replicate 32 0) ∷
    (value, d_value) ∷ (nil, d_nil) ∷ (s_h, d_h) ∷ (s_z, d_z) ∷ (s_u, d_u) ∷ (s_y, d_y) ∷ (s_x, d_x) ∷ (s_a, d_a) ∷ (s_s, d_s) ∷ (s_t, d_t) ∷ (s_v, d_v) ∷ []

is-value : digest value ≡ d_value
unfolding sha256 digest_bytes hash_after compress rounds schedule first_words spell_batch spell_count spell_value wide_bytes
is-value = refl

is-nil : digest nil ≡ d_nil
unfolding sha256 digest_bytes hash_after compress rounds schedule first_words spell_batch spell_count spell_value wide_bytes
is-nil = refl

is-s-h : digest s_h ≡ d_h
unfolding sha256 digest_bytes hash_after compress rounds schedule first_words spell_batch spell_count spell_value wide_bytes
is-s-h = refl

is-s-z : digest s_z ≡ d_z
unfolding sha256 digest_bytes hash_after compress rounds schedule first_words spell_batch spell_count spell_value wide_bytes
is-s-z = refl

is-s-u : digest s_u ≡ d_u
unfolding sha256 digest_bytes hash_after compress rounds schedule first_words spell_batch spell_count spell_value wide_bytes
is-s-u = refl

is-s-y : digest s_y ≡ d_y
unfolding sha256 digest_bytes hash_after compress rounds schedule first_words spell_batch spell_count spell_value wide_bytes
is-s-y = refl

is-s-x : digest s_x ≡ d_x
unfolding sha256 digest_bytes hash_after compress rounds schedule first_words spell_batch spell_count spell_value wide_bytes
is-s-x = refl

is-s-a : digest s_a ≡ d_a
unfolding sha256 digest_bytes hash_after compress rounds schedule first_words spell_batch spell_count spell_value wide_bytes
is-s-a = refl

is-s-s : digest s_s ≡ d_s
unfolding sha256 digest_bytes hash_after compress rounds schedule first_words spell_batch spell_count spell_value wide_bytes
is-s-s = refl

is-s-t : digest s_t ≡ d_t
unfolding sha256 digest_bytes hash_after compress rounds schedule first_words spell_batch spell_count spell_value wide_bytes
is-s-t = refl

is-s-v : digest s_v ≡ d_v
unfolding sha256 digest_bytes hash_after compress rounds schedule first_words spell_batch spell_count spell_value wide_bytes
is-s-v = refl

abbrev IsOne : List ℕ → Type 0
IsOne s = IsOneOf pairs s

these-differ : all_differ pairs ≡ true
these-differ = refl

one-empty : IsOne []
one-empty = record { digest_of = _; one = inl refl; is = refl }

one-value : IsOne value
one-value = record { digest_of = _; one = (inr (inl refl)); is = is-value }

one-nil : IsOne nil
one-nil = record { digest_of = _; one = (inr (inr (inl refl))); is = is-nil }

one-s-h : IsOne s_h
one-s-h = record { digest_of = _; one = (inr (inr (inr (inl refl)))); is = is-s-h }

one-s-z : IsOne s_z
one-s-z = record { digest_of = _; one = (inr (inr (inr (inr (inl refl))))); is = is-s-z }

one-s-u : IsOne s_u
one-s-u = record { digest_of = _; one = (inr (inr (inr (inr (inr (inl refl)))))); is = is-s-u }

one-s-y : IsOne s_y
one-s-y = record { digest_of = _; one = (inr (inr (inr (inr (inr (inr (inl refl))))))); is = is-s-y }

one-s-x : IsOne s_x
one-s-x = record { digest_of = _; one = (inr (inr (inr (inr (inr (inr (inr (inl refl)))))))); is = is-s-x }

one-s-a : IsOne s_a
one-s-a = record { digest_of = _; one = (inr (inr (inr (inr (inr (inr (inr (inr (inl refl))))))))); is = is-s-a }

one-s-s : IsOne s_s
one-s-s = record { digest_of = _; one = (inr (inr (inr (inr (inr (inr (inr (inr (inr (inl refl)))))))))); is = is-s-s }

one-s-t : IsOne s_t
one-s-t = record { digest_of = _; one = (inr (inr (inr (inr (inr (inr (inr (inr (inr (inr (inl refl))))))))))); is = is-s-t }

one-s-v : IsOne s_v
one-s-v = record { digest_of = _; one = (inr (inr (inr (inr (inr (inr (inr (inr (inr (inr (inr (inl refl)))))))))))); is = is-s-v }

strings-0-h : (makes q 0 [] (told m_h) 0).strings ≡ value ∷ s_h ∷ []
unfolding sha256 digest_bytes hash_after compress rounds schedule first_words spell_batch spell_count spell_value wide_bytes
strings-0-h = refl

strings-0-u : (makes q 0 took0_1 (told m_u) 1).strings ≡ nil ∷ s_u ∷ []
unfolding sha256 digest_bytes hash_after compress rounds schedule first_words spell_batch spell_count spell_value wide_bytes
strings-0-u = refl

strings-0-z : (makes q 0 took0_2 (told m_z2) 2).strings ≡ nil ∷ s_z ∷ []
unfolding sha256 digest_bytes hash_after compress rounds schedule first_words spell_batch spell_count spell_value wide_bytes
strings-0-z = refl

strings-0-y : (makes q 0 took0_3 (told m_y) 3).strings ≡ nil ∷ s_y ∷ []
unfolding sha256 digest_bytes hash_after compress rounds schedule first_words spell_batch spell_count spell_value wide_bytes
strings-0-y = refl

strings-0-x : (makes q 0 took0_4 (told m_x) 4).strings ≡ s_x ∷ []
unfolding sha256 digest_bytes hash_after compress rounds schedule first_words spell_batch spell_count spell_value wide_bytes
strings-0-x = refl

strings-0-a : (makes q 0 took0_5 (told m_a) 5).strings ≡ s_a ∷ []
unfolding sha256 digest_bytes hash_after compress rounds schedule first_words spell_batch spell_count spell_value wide_bytes
strings-0-a = refl

strings-1-h : (makes q 1 [] (told m_h) 0).strings ≡ value ∷ s_h ∷ []
unfolding sha256 digest_bytes hash_after compress rounds schedule first_words spell_batch spell_count spell_value wide_bytes
strings-1-h = refl

strings-1-z : (makes q 1 took1_1 (told m_z) 1).strings ≡ nil ∷ s_z ∷ []
unfolding sha256 digest_bytes hash_after compress rounds schedule first_words spell_batch spell_count spell_value wide_bytes
strings-1-z = refl

strings-1-u : (makes q 1 took1_2 (told m_u) 2).strings ≡ nil ∷ s_u ∷ []
unfolding sha256 digest_bytes hash_after compress rounds schedule first_words spell_batch spell_count spell_value wide_bytes
strings-1-u = refl

strings-1-y : (makes q 1 took1_3 (told m_y) 3).strings ≡ nil ∷ s_y ∷ []
unfolding sha256 digest_bytes hash_after compress rounds schedule first_words spell_batch spell_count spell_value wide_bytes
strings-1-y = refl

strings-1-x : (makes q 1 took1_4 (told m_x) 4).strings ≡ s_x ∷ []
unfolding sha256 digest_bytes hash_after compress rounds schedule first_words spell_batch spell_count spell_value wide_bytes
strings-1-x = refl

strings-1-s : (makes q 1 took1_5 (told m_s) 5).strings ≡ s_s ∷ []
unfolding sha256 digest_bytes hash_after compress rounds schedule first_words spell_batch spell_count spell_value wide_bytes
strings-1-s = refl

strings-1-t : (makes q 1 took1_6 (told m_t) 6).strings ≡ s_t ∷ []
unfolding sha256 digest_bytes hash_after compress rounds schedule first_words spell_batch spell_count spell_value wide_bytes
strings-1-t = refl

strings-2-h : (makes q 2 [] (told m_h) 0).strings ≡ value ∷ s_h ∷ []
unfolding sha256 digest_bytes hash_after compress rounds schedule first_words spell_batch spell_count spell_value wide_bytes
strings-2-h = refl

strings-2-z : (makes q 2 took2_1 (told m_z) 1).strings ≡ nil ∷ s_z ∷ []
unfolding sha256 digest_bytes hash_after compress rounds schedule first_words spell_batch spell_count spell_value wide_bytes
strings-2-z = refl

strings-2-u : (makes q 2 took2_2 (told m_u2) 2).strings ≡ nil ∷ s_u ∷ []
unfolding sha256 digest_bytes hash_after compress rounds schedule first_words spell_batch spell_count spell_value wide_bytes
strings-2-u = refl

strings-2-s : (makes q 2 took2_3 (told m_s) 3).strings ≡ s_s ∷ []
unfolding sha256 digest_bytes hash_after compress rounds schedule first_words spell_batch spell_count spell_value wide_bytes
strings-2-s = refl

strings-2-t : (makes q 2 took2_4 (told m_t) 4).strings ≡ s_t ∷ []
unfolding sha256 digest_bytes hash_after compress rounds schedule first_words spell_batch spell_count spell_value wide_bytes
strings-2-t = refl

strings-2-v : (makes q 2 took2_5 (told m_v) 5).strings ≡ s_v ∷ []
unfolding sha256 digest_bytes hash_after compress rounds schedule first_words spell_batch spell_count spell_value wide_bytes
strings-2-v = refl

one-of-two : (a c s : List ℕ) → IsOne a → IsOne c → In s (a ∷ c ∷ []) → IsOne s
one-of-two a c s x y (inl e) = subst IsOne (sym e) x
one-of-two a c s x y (inr (inl e)) = subst IsOne (sym e) y
one-of-two a c s x y (inr (inr k)) = absurd k

this-one : (a s : List ℕ) → IsOne a → In s (a ∷ []) → IsOne s
this-one a s x (inl e) = subst IsOne (sym e) x
this-one a s x (inr k) = absurd k

each-0 : AreStrings IsOne took0_6
each-0 = (
  (λ s h. this-one s_a s one-s-a (subst (λ (z : List (List ℕ)). In s z) strings-0-a h)),
  (
    (λ s h. this-one s_x s one-s-x (subst (λ (z : List (List ℕ)). In s z) strings-0-x h)),
    (
      (λ s h. one-of-two nil s_y s one-nil one-s-y (subst (λ (z : List (List ℕ)). In s z) strings-0-y h)),
      (
        (λ s h. one-of-two nil s_z s one-nil one-s-z (subst (λ (z : List (List ℕ)). In s z) strings-0-z h)),
        (
          (λ s h. one-of-two nil s_u s one-nil one-s-u (subst (λ (z : List (List ℕ)). In s z) strings-0-u h)),
          ((λ s h. one-of-two value s_h s one-value one-s-h (subst (λ (z : List (List ℕ)). In s z) strings-0-h h)), tt),
        ),
      ),
    ),
  ),
)

each-1 : AreStrings IsOne took1_7
each-1 = (
  (λ s h. this-one s_t s one-s-t (subst (λ (z : List (List ℕ)). In s z) strings-1-t h)),
  (
    (λ s h. this-one s_s s one-s-s (subst (λ (z : List (List ℕ)). In s z) strings-1-s h)),
    (
      (λ s h. this-one s_x s one-s-x (subst (λ (z : List (List ℕ)). In s z) strings-1-x h)),
      (
        (λ s h. one-of-two nil s_y s one-nil one-s-y (subst (λ (z : List (List ℕ)). In s z) strings-1-y h)),
        (
          (λ s h. one-of-two nil s_u s one-nil one-s-u (subst (λ (z : List (List ℕ)). In s z) strings-1-u h)),
          (
            (λ s h. one-of-two nil s_z s one-nil one-s-z (subst (λ (z : List (List ℕ)). In s z) strings-1-z h)),
            ((λ s h. one-of-two value s_h s one-value one-s-h (subst (λ (z : List (List ℕ)). In s z) strings-1-h h)), tt),
          ),
        ),
      ),
    ),
  ),
)

each-2 : AreStrings IsOne took2_6
each-2 = (
  (λ s h. this-one s_v s one-s-v (subst (λ (z : List (List ℕ)). In s z) strings-2-v h)),
  (
    (λ s h. this-one s_t s one-s-t (subst (λ (z : List (List ℕ)). In s z) strings-2-t h)),
    (
      (λ s h. this-one s_s s one-s-s (subst (λ (z : List (List ℕ)). In s z) strings-2-s h)),
      (
        (λ s h. one-of-two nil s_u s one-nil one-s-u (subst (λ (z : List (List ℕ)). In s z) strings-2-u h)),
        (
          (λ s h. one-of-two nil s_z s one-nil one-s-z (subst (λ (z : List (List ℕ)). In s z) strings-2-z h)),
          ((λ s h. one-of-two value s_h s one-value one-s-h (subst (λ (z : List (List ℕ)). In s z) strings-2-h h)), tt),
        ),
      ),
    ),
  ),
)

abbrev last : World Message
last = world took0_6 took1_7 took2_6

of-world : (s : List ℕ) → IsString last s → IsOne s
of-world s (inl e) = subst IsOne (sym e) one-empty
of-world s (inr h) = go (eqb h.node 0) (eqb h.node 1) (eqb h.node 2) h.taken
  where
    go : (t u r : Bool) → In h.item (cond t took0_6 (cond u took1_7 (cond r took2_6 []))) → IsOne s
    go true u r k = each-string IsOne took0_6 h.item s each-0 k h.hashed
    go false true r k = each-string IsOne took1_7 h.item s each-1 k h.hashed
    go false false true k = each-string IsOne took2_6 h.item s each-2 k h.hashed
    go false false false k = absurd k

separate : Separate (IsString last)
separate = separate-by pairs these-differ last of-world

-- ---- Two correct replicas differ

nil-no-batch : ◌≡◌ {A = Value} Value_nil (Value_batch b) → ⊥
nil-no-batch h = absurd cc

no-broadcast : IsBroadcast without_views q last → ⊥
no-broadcast h = nil-no-batch (h.agreement 0 2 0 Value_nil (Value_batch b) refl refl delivers-0 delivers-2)

pub digests-without-views-are-not-safe : IsNotSafe without_views
digests-without-views-are-not-safe = record {
  params = q;
  world = last;
  good = good;
  reached = reached-19;
  separate = separate;
  broken = no-broadcast;
}
