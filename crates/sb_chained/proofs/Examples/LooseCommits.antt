-- Three nodes must have consecutive views. The variant of chained HotStuff that commits the grandparent of any certified
-- node is not safe: in the reached world below, a Byzantine leader makes two correct replicas deliver different values.
--
-- Nodes of the tree, by view in round 4 but z, which is of round 0: z holds a batch, u holds nil, both on the root.
--
--     root -- z (1) -- y (2) -- x (3) -- a (4)       replica 0 sees x certified, and delivers z
--     root -- u (1) -- s (5) -- t (6) -- v (7)       replica 1 sees t certified, and delivers u
--
-- Replica 1 votes for x, which locks it on z. The certificate of u is of a higher view than z's, so s is safe for it.
-- Under the rule of chained HotStuff z is not committed, since the views of z and y are not consecutive.
use Rattle.std.proofs.Common.{◌≡◌, ◌<◌, ◌^◌, ℕ, Bool, true, false, cond, eqb, List, [], ◌∷◌, replicate, Some, refl, sym, ap, ◌∙◌, subst, inl, inr, arith}
use Rattle.sha2.specs.Sha256.{sha256, digest_bytes, hash_after, compress, rounds, schedule, first_words}
use Rattle.iss_base.specs.Lists.{In}
use Rattle.iss_request.specs.Digest.{digest}
use Rattle.iss_request.specs.Formats.{spell_batch, spell_count, spell_value, value_string}
use Rattle.iss_request.specs.declared.requests.Value.{Value}
use Rattle.iss_request.specs.declared.requests.Value.TheVariants.{Nil as Value_nil, Batch as Value_batch}
use Rattle.iss_sb.specs.Calls.{IsGoodParams}
use Rattle.iss_sb.specs.Evidence.{Item, World, IsCredible, IsReached, IsReadMessage, IsSigned, IsString, Separate, Verifies, and_then, delivered, empty_world}
use Rattle.iss_sb.specs.Laws.{IsBroadcast}
use Rattle.iss_sb.specs.Statements.{signature, wide_bytes}
use Rattle.iss_sb.proofs.Signatures.{signature-shape}
use Rattle.iss_sb.specs.declared.content.Content.{Content}
use Rattle.iss_sb.specs.declared.content.Content.TheVariants.{Nil, Holds, Mark}
use Rattle.hs_tree.specs.declared.certificates.Certificate.{Certificate}
use Rattle.hs_tree.specs.declared.certificates.Certificate.TheVariants.{Root}
use Rattle.hs_tree.specs.declared.messages.Message.{Message}
use Rattle.hs_tree.specs.declared.messages.Body.TheVariants.{Prepare}
use Rattle.hs_tree.specs.Messages.{signed}
use Rattle.hs_tree.specs.Certificates.{root_row}
use Rattle.hs_tree.specs.Statements.{stated}
use Rattle.hs_tree.specs.Tree.{chained as form, root, viewed_string}
use Rattle.hs_tree.proofs.MessageGrammar.{spelled-read}
use Rattle.hs_views.proofs.SmallWorlds.{IsOneOf, all_differ, one-takes, separate-by, starts, two-takes, world, zero-takes}
use Rattle.sb_chained.specs.Chained.{makes}
use Rattle.sb_chained.specs.Variants.{IsNotSafe, loose}
use Rattle.sb_chained.proofs.Examples.ByzantineLeader.{and_own, alone, batch_held, cites, good-setup, liar, q, sent, shown, shown-spelled, signs, states, told, voted}
use Rattle.sb_chained.proofs.Examples.Runs.{b}

good : IsGoodParams loose q
good = record {
  setup = good-setup;
  kind = refl;
  nodes = refl;
  majority = refl;
  leader = omega arith;
  some = omega arith;
  few = omega arith;
  ascending = (omega arith, (omega arith, tt));
  slots_low = (omega arith, (omega arith, tt));
  directory = refl;
}

-- ---- The digests of the nodes, computed by another program

abbrev d_z : List ℕ
d_z = 142 ∷ 178 ∷ 50 ∷ 45 ∷ 116 ∷ 70 ∷ 48 ∷ 26 ∷ 95 ∷ 137 ∷ 136 ∷ 75 ∷ 92 ∷ 75 ∷ 53 ∷ 247 ∷ 86 ∷ 79 ∷ 160 ∷ 190 ∷ 27 ∷ 40 ∷ 246 ∷ 231 ∷ 47 ∷ 210 ∷ 97 ∷ 73 ∷ 50 ∷ 3 ∷ 33 ∷ 175 ∷ []

abbrev d_u : List ℕ
d_u = 107 ∷ 14 ∷ 158 ∷ 231 ∷ 98 ∷ 204 ∷ 246 ∷ 221 ∷ 93 ∷ 49 ∷ 29 ∷ 9 ∷ 171 ∷ 203 ∷ 171 ∷ 34 ∷ 253 ∷ 146 ∷ 119 ∷ 232 ∷ 103 ∷ 90 ∷ 141 ∷ 59 ∷ 186 ∷ 78 ∷ 143 ∷ 101 ∷ 2 ∷ 52 ∷ 153 ∷ 76 ∷ []

abbrev d_y : List ℕ
d_y = 206 ∷ 106 ∷ 29 ∷ 112 ∷ 214 ∷ 246 ∷ 243 ∷ 140 ∷ 223 ∷ 23 ∷ 205 ∷ 2 ∷ 169 ∷ 234 ∷ 135 ∷ 230 ∷ 163 ∷ 10 ∷ 16 ∷ 41 ∷ 115 ∷ 179 ∷ 165 ∷ 109 ∷ 30 ∷ 174 ∷ 37 ∷ 219 ∷ 30 ∷ 47 ∷ 17 ∷ 227 ∷ []

abbrev d_x : List ℕ
d_x = 231 ∷ 169 ∷ 42 ∷ 179 ∷ 213 ∷ 86 ∷ 84 ∷ 63 ∷ 52 ∷ 45 ∷ 255 ∷ 116 ∷ 119 ∷ 197 ∷ 133 ∷ 126 ∷ 106 ∷ 134 ∷ 118 ∷ 236 ∷ 130 ∷ 115 ∷ 251 ∷ 32 ∷ 151 ∷ 205 ∷ 167 ∷ 242 ∷ 46 ∷ 26 ∷ 130 ∷ 72 ∷ []

abbrev d_a : List ℕ
d_a = 216 ∷ 115 ∷ 183 ∷ 65 ∷ 203 ∷ 241 ∷ 255 ∷ 231 ∷ 106 ∷ 42 ∷ 138 ∷ 232 ∷ 130 ∷ 209 ∷ 185 ∷ 32 ∷ 194 ∷ 223 ∷ 73 ∷ 101 ∷ 82 ∷ 20 ∷ 46 ∷ 181 ∷ 80 ∷ 21 ∷ 192 ∷ 237 ∷ 14 ∷ 153 ∷ 36 ∷ 188 ∷ []

abbrev d_s : List ℕ
d_s = 156 ∷ 167 ∷ 106 ∷ 69 ∷ 32 ∷ 70 ∷ 30 ∷ 231 ∷ 3 ∷ 205 ∷ 108 ∷ 124 ∷ 162 ∷ 153 ∷ 28 ∷ 223 ∷ 202 ∷ 244 ∷ 50 ∷ 46 ∷ 69 ∷ 234 ∷ 253 ∷ 34 ∷ 152 ∷ 198 ∷ 242 ∷ 96 ∷ 143 ∷ 221 ∷ 39 ∷ 109 ∷ []

abbrev d_t : List ℕ
d_t = 56 ∷ 119 ∷ 88 ∷ 135 ∷ 103 ∷ 72 ∷ 80 ∷ 203 ∷ 165 ∷ 161 ∷ 170 ∷ 182 ∷ 54 ∷ 220 ∷ 24 ∷ 87 ∷ 95 ∷ 205 ∷ 140 ∷ 144 ∷ 220 ∷ 168 ∷ 237 ∷ 234 ∷ 124 ∷ 144 ∷ 20 ∷ 67 ∷ 163 ∷ 239 ∷ 54 ∷ 136 ∷ []

abbrev d_v : List ℕ
d_v = 237 ∷ 231 ∷ 71 ∷ 188 ∷ 50 ∷ 226 ∷ 73 ∷ 214 ∷ 159 ∷ 81 ∷ 231 ∷ 173 ∷ 254 ∷ 80 ∷ 67 ∷ 224 ∷ 171 ∷ 244 ∷ 18 ∷ 233 ∷ 45 ∷ 230 ∷ 148 ∷ 200 ∷ 161 ∷ 249 ∷ 212 ∷ 255 ∷ 137 ∷ 49 ∷ 53 ∷ 178 ∷ []

-- ---- The messages

abbrev own : ℕ → Content → Certificate → List ℕ
own view what just = stated form q (Prepare view what just)

abbrev proposal : ℕ → Content → Certificate → Message
proposal view what just = signed (Prepare view what just) (signature q 3 0 (own view what just))

abbrev c_z : Certificate
c_z = shown 1 d_z 0 0 1 0

abbrev c_u : Certificate
c_u = shown 262145 d_u 1 1 2 0

abbrev c_y : Certificate
c_y = shown 262146 d_y 0 2 1 2

abbrev c_x : Certificate
c_x = shown 262147 d_x 0 3 1 3

abbrev c_s : Certificate
c_s = shown 262149 d_s 1 4 2 1

abbrev c_t : Certificate
c_t = shown 262150 d_t 1 5 2 2

abbrev m_z : Message
m_z = proposal 1 (Holds b) Root

abbrev m_u : Message
m_u = proposal 262145 Nil Root

abbrev m_y : Message
m_y = proposal 262146 Nil c_z

abbrev m_x : Message
m_x = proposal 262147 Mark c_y

abbrev m_a : Message
m_a = proposal 262148 Mark c_x

abbrev m_s : Message
m_s = proposal 262149 Nil c_u

abbrev m_t : Message
m_t = proposal 262150 Mark c_s

abbrev m_v : Message
m_v = proposal 262151 Mark c_t

-- ---- What the replicas take, by their numbers

abbrev l0_1 : List (Item Message)
l0_1 = and_then loose q 0 [] (told m_z) 0

abbrev l0_2 : List (Item Message)
l0_2 = and_then loose q 0 l0_1 (told m_u) 1

abbrev l0_3 : List (Item Message)
l0_3 = and_then loose q 0 l0_2 (told m_y) 2

abbrev l0_4 : List (Item Message)
l0_4 = and_then loose q 0 l0_3 (told m_x) 3

abbrev l0_5 : List (Item Message)
l0_5 = and_then loose q 0 l0_4 (told m_a) 4

abbrev l1_1 : List (Item Message)
l1_1 = and_then loose q 1 [] (told m_z) 0

abbrev l1_2 : List (Item Message)
l1_2 = and_then loose q 1 l1_1 (told m_u) 1

abbrev l1_3 : List (Item Message)
l1_3 = and_then loose q 1 l1_2 (told m_y) 2

abbrev l1_4 : List (Item Message)
l1_4 = and_then loose q 1 l1_3 (told m_x) 3

abbrev l1_5 : List (Item Message)
l1_5 = and_then loose q 1 l1_4 (told m_s) 4

abbrev l1_6 : List (Item Message)
l1_6 = and_then loose q 1 l1_5 (told m_t) 5

abbrev l1_7 : List (Item Message)
l1_7 = and_then loose q 1 l1_6 (told m_v) 6

abbrev l2_1 : List (Item Message)
l2_1 = and_then loose q 2 [] (told m_u) 0

abbrev l2_2 : List (Item Message)
l2_2 = and_then loose q 2 l2_1 (told m_s) 1

abbrev l2_3 : List (Item Message)
l2_3 = and_then loose q 2 l2_2 (told m_t) 2

votes-0-z : (makes q 0 [] (told m_z) 0).sends ≡ sent 0 1 d_z 0
unfolding sha256 digest_bytes hash_after compress rounds schedule first_words spell_batch spell_count spell_value wide_bytes
votes-0-z = refl

votes-0-y : (makes q 0 l0_2 (told m_y) 2).sends ≡ sent 0 262146 d_y 2
unfolding sha256 digest_bytes hash_after compress rounds schedule first_words spell_batch spell_count spell_value wide_bytes
votes-0-y = refl

votes-0-x : (makes q 0 l0_3 (told m_x) 3).sends ≡ sent 0 262147 d_x 3
unfolding sha256 digest_bytes hash_after compress rounds schedule first_words spell_batch spell_count spell_value wide_bytes
votes-0-x = refl

votes-1-z : (makes q 1 [] (told m_z) 0).sends ≡ sent 1 1 d_z 0
unfolding sha256 digest_bytes hash_after compress rounds schedule first_words spell_batch spell_count spell_value wide_bytes
votes-1-z = refl

votes-1-u : (makes q 1 l1_1 (told m_u) 1).sends ≡ sent 1 262145 d_u 1
unfolding sha256 digest_bytes hash_after compress rounds schedule first_words spell_batch spell_count spell_value wide_bytes
votes-1-u = refl

votes-1-y : (makes q 1 l1_2 (told m_y) 2).sends ≡ sent 1 262146 d_y 2
unfolding sha256 digest_bytes hash_after compress rounds schedule first_words spell_batch spell_count spell_value wide_bytes
votes-1-y = refl

votes-1-x : (makes q 1 l1_3 (told m_x) 3).sends ≡ sent 1 262147 d_x 3
unfolding sha256 digest_bytes hash_after compress rounds schedule first_words spell_batch spell_count spell_value wide_bytes
votes-1-x = refl

votes-1-s : (makes q 1 l1_4 (told m_s) 4).sends ≡ sent 1 262149 d_s 4
unfolding sha256 digest_bytes hash_after compress rounds schedule first_words spell_batch spell_count spell_value wide_bytes
votes-1-s = refl

votes-1-t : (makes q 1 l1_5 (told m_t) 5).sends ≡ sent 1 262150 d_t 5
unfolding sha256 digest_bytes hash_after compress rounds schedule first_words spell_batch spell_count spell_value wide_bytes
votes-1-t = refl

votes-2-u : (makes q 2 [] (told m_u) 0).sends ≡ sent 2 262145 d_u 0
unfolding sha256 digest_bytes hash_after compress rounds schedule first_words spell_batch spell_count spell_value wide_bytes
votes-2-u = refl

votes-2-s : (makes q 2 l2_1 (told m_s) 1).sends ≡ sent 2 262149 d_s 1
unfolding sha256 digest_bytes hash_after compress rounds schedule first_words spell_batch spell_count spell_value wide_bytes
votes-2-s = refl

votes-2-t : (makes q 2 l2_2 (told m_t) 2).sends ≡ sent 2 262150 d_t 2
unfolding sha256 digest_bytes hash_after compress rounds schedule first_words spell_batch spell_count spell_value wide_bytes
votes-2-t = refl

delivers-0 : delivered loose q 0 l0_5 0 ≡ Some (Value_batch b)
unfolding sha256 digest_bytes hash_after compress rounds schedule first_words spell_batch spell_count spell_value wide_bytes
delivers-0 = refl

delivers-1 : delivered loose q 1 l1_7 0 ≡ Some Value_nil
unfolding sha256 digest_bytes hash_after compress rounds schedule first_words spell_batch spell_count spell_value wide_bytes
delivers-1 = refl

-- ---- The messages can be decoded, and their signatures are valid

abbrev IsRead : Message → Type 0
IsRead msg = IsReadMessage loose q msg

read-z : IsRead m_z
read-z = spelled-read 1 1 m_z _ (record { view_fits = omega arith; behind = batch_held.0; what_is = batch_held.1; certificate = root_row; spelled = refl; row = refl }) (signature-shape loose q good 3 0 (own 1 (Holds b) Root))

read-u : IsRead m_u
read-u = spelled-read 1 1 m_u _ (record { view_fits = omega arith; behind = _; what_is = refl; certificate = root_row; spelled = refl; row = refl }) (signature-shape loose q good 3 0 (own 262145 Nil Root))

read-y : IsRead m_y
read-y = spelled-read 1 1 m_y _ (record { view_fits = omega arith; behind = _; what_is = refl; certificate = _; spelled = shown-spelled 1 d_z 0 0 1 0 (omega arith) (omega arith) refl (omega arith) (omega arith); row = refl }) (signature-shape loose q good 3 0 (own 262146 Nil c_z))

read-x : IsRead m_x
read-x = spelled-read 1 1 m_x _ (record { view_fits = omega arith; behind = _; what_is = refl; certificate = _; spelled = shown-spelled 262146 d_y 0 2 1 2 (omega arith) (omega arith) refl (omega arith) (omega arith); row = refl }) (signature-shape loose q good 3 0 (own 262147 Mark c_y))

read-a : IsRead m_a
read-a = spelled-read 1 1 m_a _ (record { view_fits = omega arith; behind = _; what_is = refl; certificate = _; spelled = shown-spelled 262147 d_x 0 3 1 3 (omega arith) (omega arith) refl (omega arith) (omega arith); row = refl }) (signature-shape loose q good 3 0 (own 262148 Mark c_x))

read-s : IsRead m_s
read-s = spelled-read 1 1 m_s _ (record { view_fits = omega arith; behind = _; what_is = refl; certificate = _; spelled = shown-spelled 262145 d_u 1 1 2 0 (omega arith) (omega arith) refl (omega arith) (omega arith); row = refl }) (signature-shape loose q good 3 0 (own 262149 Nil c_u))

read-t : IsRead m_t
read-t = spelled-read 1 1 m_t _ (record { view_fits = omega arith; behind = _; what_is = refl; certificate = _; spelled = shown-spelled 262149 d_s 1 4 2 1 (omega arith) (omega arith) refl (omega arith) (omega arith); row = refl }) (signature-shape loose q good 3 0 (own 262150 Mark c_s))

read-v : IsRead m_v
read-v = spelled-read 1 1 m_v _ (record { view_fits = omega arith; behind = _; what_is = refl; certificate = _; spelled = shown-spelled 262150 d_t 1 5 2 2 (omega arith) (omega arith) refl (omega arith) (omega arith); row = refl }) (signature-shape loose q good 3 0 (own 262151 Mark c_t))

abbrev Comes : World Message → Message → Type 0
Comes w msg = IsCredible loose q (Verifies q) (IsSigned loose q w) 3 msg

-- a proposal on a certificate, once its votes are signed
shows-come : (w : World Message) (view : ℕ) (d : List ℕ) (i at j other : ℕ) (msg : Message) (statement : List ℕ) → i < 4 → at < 2 ^ 4 → j < 4 → other < 2 ^ 4 → IsRead msg →
    IsSigned loose q w i (states view d) → IsSigned loose q w j (states view d) → loose.claims q 3 msg ≡ and_own view d i at j other (signs 3 0 statement) → Comes w msg
shows-come w view d i at j other msg statement li la lj lo read si sj e =
    cites loose w view d i at j other li la lj lo si sj 3 msg (signs 3 0 statement) (omega arith) read e (liar loose w statement)

-- a proposal on the root, which claims only its own signature
first-comes : (w : World Message) (msg : Message) (statement : List ℕ) → IsRead msg → loose.claims q 3 msg ≡ signs 3 0 statement ∷ [] → Comes w msg
first-comes w msg statement read e = alone loose w 3 msg (signs 3 0 statement) (omega arith) read e (liar loose w statement)

-- a vote in a replica's history was signed
signed-by : (w : World Message) (k : ℕ) (x : Item Message) (view : ℕ) (d : List ℕ) (leaf : ℕ) → In x (w k) → x.made.sends ≡ sent k view d leaf → IsSigned loose q w k (states view d)
signed-by w k x view d leaf h e = voted loose w k view d leaf x h e (inl refl)

-- ---- The run

come-1 : Comes empty_world m_z
come-1 = first-comes empty_world m_z (own 1 (Holds b) Root) read-z refl

reached-1 : IsReached loose q (world l0_1 [] [])
reached-1 = starts loose q refl (told m_z) 0 come-1

come-2 : Comes (world l0_1 [] []) m_z
come-2 = first-comes (world l0_1 [] []) m_z (own 1 (Holds b) Root) read-z refl

reached-2 : IsReached loose q (world l0_1 l1_1 [])
reached-2 = one-takes loose q l0_1 [] [] reached-1 (told m_z) 0 refl come-2

come-3 : Comes (world l0_1 l1_1 []) m_u
come-3 = first-comes (world l0_1 l1_1 []) m_u (own 262145 Nil Root) read-u refl

reached-3 : IsReached loose q (world l0_2 l1_1 [])
reached-3 = zero-takes loose q l0_1 l1_1 [] reached-2 (told m_u) 1 refl come-3

come-4 : Comes (world l0_2 l1_1 []) m_u
come-4 = first-comes (world l0_2 l1_1 []) m_u (own 262145 Nil Root) read-u refl

reached-4 : IsReached loose q (world l0_2 l1_2 [])
reached-4 = one-takes loose q l0_2 l1_1 [] reached-3 (told m_u) 1 refl come-4

come-5 : Comes (world l0_2 l1_2 []) m_u
come-5 = first-comes (world l0_2 l1_2 []) m_u (own 262145 Nil Root) read-u refl

reached-5 : IsReached loose q (world l0_2 l1_2 l2_1)
reached-5 = two-takes loose q l0_2 l1_2 [] reached-4 (told m_u) 0 refl come-5

come-6 : Comes (world l0_2 l1_2 l2_1) m_y
come-6 = shows-come (world l0_2 l1_2 l2_1) 1 d_z 0 0 1 0 m_y (own 262146 Nil c_z) (omega arith) (omega arith) (omega arith) (omega arith) read-y (signed-by (world l0_2 l1_2 l2_1) 0 _ 1 d_z 0 (inr (inl refl)) votes-0-z) (signed-by (world l0_2 l1_2 l2_1) 1 _ 1 d_z 0 (inr (inl refl)) votes-1-z) refl

reached-6 : IsReached loose q (world l0_3 l1_2 l2_1)
reached-6 = zero-takes loose q l0_2 l1_2 l2_1 reached-5 (told m_y) 2 refl come-6

come-7 : Comes (world l0_3 l1_2 l2_1) m_y
come-7 = shows-come (world l0_3 l1_2 l2_1) 1 d_z 0 0 1 0 m_y (own 262146 Nil c_z) (omega arith) (omega arith) (omega arith) (omega arith) read-y (signed-by (world l0_3 l1_2 l2_1) 0 _ 1 d_z 0 (inr (inr (inl refl))) votes-0-z) (signed-by (world l0_3 l1_2 l2_1) 1 _ 1 d_z 0 (inr (inl refl)) votes-1-z) refl

reached-7 : IsReached loose q (world l0_3 l1_3 l2_1)
reached-7 = one-takes loose q l0_3 l1_2 l2_1 reached-6 (told m_y) 2 refl come-7

come-8 : Comes (world l0_3 l1_3 l2_1) m_x
come-8 = shows-come (world l0_3 l1_3 l2_1) 262146 d_y 0 2 1 2 m_x (own 262147 Mark c_y) (omega arith) (omega arith) (omega arith) (omega arith) read-x (signed-by (world l0_3 l1_3 l2_1) 0 _ 262146 d_y 2 (inl refl) votes-0-y) (signed-by (world l0_3 l1_3 l2_1) 1 _ 262146 d_y 2 (inl refl) votes-1-y) refl

reached-8 : IsReached loose q (world l0_4 l1_3 l2_1)
reached-8 = zero-takes loose q l0_3 l1_3 l2_1 reached-7 (told m_x) 3 refl come-8

come-9 : Comes (world l0_4 l1_3 l2_1) m_x
come-9 = shows-come (world l0_4 l1_3 l2_1) 262146 d_y 0 2 1 2 m_x (own 262147 Mark c_y) (omega arith) (omega arith) (omega arith) (omega arith) read-x (signed-by (world l0_4 l1_3 l2_1) 0 _ 262146 d_y 2 (inr (inl refl)) votes-0-y) (signed-by (world l0_4 l1_3 l2_1) 1 _ 262146 d_y 2 (inl refl) votes-1-y) refl

reached-9 : IsReached loose q (world l0_4 l1_4 l2_1)
reached-9 = one-takes loose q l0_4 l1_3 l2_1 reached-8 (told m_x) 3 refl come-9

come-10 : Comes (world l0_4 l1_4 l2_1) m_a
come-10 = shows-come (world l0_4 l1_4 l2_1) 262147 d_x 0 3 1 3 m_a (own 262148 Mark c_x) (omega arith) (omega arith) (omega arith) (omega arith) read-a (signed-by (world l0_4 l1_4 l2_1) 0 _ 262147 d_x 3 (inl refl) votes-0-x) (signed-by (world l0_4 l1_4 l2_1) 1 _ 262147 d_x 3 (inl refl) votes-1-x) refl

reached-10 : IsReached loose q (world l0_5 l1_4 l2_1)
reached-10 = zero-takes loose q l0_4 l1_4 l2_1 reached-9 (told m_a) 4 refl come-10

come-11 : Comes (world l0_5 l1_4 l2_1) m_s
come-11 = shows-come (world l0_5 l1_4 l2_1) 262145 d_u 1 1 2 0 m_s (own 262149 Nil c_u) (omega arith) (omega arith) (omega arith) (omega arith) read-s (signed-by (world l0_5 l1_4 l2_1) 1 _ 262145 d_u 1 (inr (inr (inl refl))) votes-1-u) (signed-by (world l0_5 l1_4 l2_1) 2 _ 262145 d_u 0 (inl refl) votes-2-u) refl

reached-11 : IsReached loose q (world l0_5 l1_5 l2_1)
reached-11 = one-takes loose q l0_5 l1_4 l2_1 reached-10 (told m_s) 4 refl come-11

come-12 : Comes (world l0_5 l1_5 l2_1) m_s
come-12 = shows-come (world l0_5 l1_5 l2_1) 262145 d_u 1 1 2 0 m_s (own 262149 Nil c_u) (omega arith) (omega arith) (omega arith) (omega arith) read-s (signed-by (world l0_5 l1_5 l2_1) 1 _ 262145 d_u 1 (inr (inr (inr (inl refl)))) votes-1-u) (signed-by (world l0_5 l1_5 l2_1) 2 _ 262145 d_u 0 (inl refl) votes-2-u) refl

reached-12 : IsReached loose q (world l0_5 l1_5 l2_2)
reached-12 = two-takes loose q l0_5 l1_5 l2_1 reached-11 (told m_s) 1 refl come-12

come-13 : Comes (world l0_5 l1_5 l2_2) m_t
come-13 = shows-come (world l0_5 l1_5 l2_2) 262149 d_s 1 4 2 1 m_t (own 262150 Mark c_s) (omega arith) (omega arith) (omega arith) (omega arith) read-t (signed-by (world l0_5 l1_5 l2_2) 1 _ 262149 d_s 4 (inl refl) votes-1-s) (signed-by (world l0_5 l1_5 l2_2) 2 _ 262149 d_s 1 (inl refl) votes-2-s) refl

reached-13 : IsReached loose q (world l0_5 l1_6 l2_2)
reached-13 = one-takes loose q l0_5 l1_5 l2_2 reached-12 (told m_t) 5 refl come-13

come-14 : Comes (world l0_5 l1_6 l2_2) m_t
come-14 = shows-come (world l0_5 l1_6 l2_2) 262149 d_s 1 4 2 1 m_t (own 262150 Mark c_s) (omega arith) (omega arith) (omega arith) (omega arith) read-t (signed-by (world l0_5 l1_6 l2_2) 1 _ 262149 d_s 4 (inr (inl refl)) votes-1-s) (signed-by (world l0_5 l1_6 l2_2) 2 _ 262149 d_s 1 (inl refl) votes-2-s) refl

reached-14 : IsReached loose q (world l0_5 l1_6 l2_3)
reached-14 = two-takes loose q l0_5 l1_6 l2_2 reached-13 (told m_t) 2 refl come-14

come-15 : Comes (world l0_5 l1_6 l2_3) m_v
come-15 = shows-come (world l0_5 l1_6 l2_3) 262150 d_t 1 5 2 2 m_v (own 262151 Mark c_t) (omega arith) (omega arith) (omega arith) (omega arith) read-v (signed-by (world l0_5 l1_6 l2_3) 1 _ 262150 d_t 5 (inl refl) votes-1-t) (signed-by (world l0_5 l1_6 l2_3) 2 _ 262150 d_t 2 (inl refl) votes-2-t) refl

reached-15 : IsReached loose q (world l0_5 l1_7 l2_3)
reached-15 = one-takes loose q l0_5 l1_6 l2_3 reached-14 (told m_v) 6 refl come-15

-- ---- SHA-256 does not collide on its strings: two values' and eight nodes'

abbrev value : List ℕ
value = value_string 1 (Value_batch b)

abbrev nil : List ℕ
nil = value_string 1 Value_nil

abbrev s_z : List ℕ
s_z = viewed_string 1 1 root (Holds b)

abbrev s_u : List ℕ
s_u = viewed_string 1 262145 root Nil

abbrev s_y : List ℕ
s_y = viewed_string 1 262146 d_z Nil

abbrev s_x : List ℕ
s_x = viewed_string 1 262147 d_y Mark

abbrev s_a : List ℕ
s_a = viewed_string 1 262148 d_x Mark

abbrev s_s : List ℕ
s_s = viewed_string 1 262149 d_u Nil

abbrev s_t : List ℕ
s_t = viewed_string 1 262150 d_s Mark

abbrev s_v : List ℕ
s_v = viewed_string 1 262151 d_t Mark

abbrev d_value : List ℕ
d_value = 153 ∷ 249 ∷ 227 ∷ 138 ∷ 12 ∷ 112 ∷ 47 ∷ 234 ∷ 193 ∷ 248 ∷ 131 ∷ 69 ∷ 120 ∷ 191 ∷ 171 ∷ 95 ∷ 188 ∷ 142 ∷ 189 ∷ 158 ∷ 232 ∷ 186 ∷ 78 ∷ 223 ∷ 107 ∷ 7 ∷ 134 ∷ 227 ∷ 98 ∷ 16 ∷ 18 ∷ 220 ∷ []

abbrev d_nil : List ℕ
d_nil = 238 ∷ 196 ∷ 18 ∷ 31 ∷ 42 ∷ 7 ∷ 182 ∷ 26 ∷ 186 ∷ 22 ∷ 65 ∷ 72 ∷ 18 ∷ 170 ∷ 154 ∷ 252 ∷ 57 ∷ 171 ∷ 10 ∷ 19 ∷ 99 ∷ 96 ∷ 165 ∷ 172 ∷ 226 ∷ 36 ∷ 13 ∷ 193 ∷ 155 ∷ 4 ∷ 100 ∷ 235 ∷ []

-- each string with its digest
abbrev pairs : List (List ℕ × List ℕ)
pairs = ([], replicate 32 0) ∷
    (value, d_value) ∷ (nil, d_nil) ∷ (s_z, d_z) ∷ (s_u, d_u) ∷ (s_y, d_y) ∷ (s_x, d_x) ∷ (s_a, d_a) ∷ (s_s, d_s) ∷ (s_t, d_t) ∷ (s_v, d_v) ∷ []

is-value : digest value ≡ d_value
unfolding sha256 digest_bytes hash_after compress rounds schedule first_words spell_batch spell_count spell_value wide_bytes
is-value = refl

is-nil : digest nil ≡ d_nil
unfolding sha256 digest_bytes hash_after compress rounds schedule first_words spell_batch spell_count spell_value wide_bytes
is-nil = refl

is-s-z : digest s_z ≡ d_z
unfolding sha256 digest_bytes hash_after compress rounds schedule first_words spell_batch spell_count spell_value wide_bytes
is-s-z = refl

is-s-u : digest s_u ≡ d_u
unfolding sha256 digest_bytes hash_after compress rounds schedule first_words spell_batch spell_count spell_value wide_bytes
is-s-u = refl

is-s-y : digest s_y ≡ d_y
unfolding sha256 digest_bytes hash_after compress rounds schedule first_words spell_batch spell_count spell_value wide_bytes
is-s-y = refl

is-s-x : digest s_x ≡ d_x
unfolding sha256 digest_bytes hash_after compress rounds schedule first_words spell_batch spell_count spell_value wide_bytes
is-s-x = refl

is-s-a : digest s_a ≡ d_a
unfolding sha256 digest_bytes hash_after compress rounds schedule first_words spell_batch spell_count spell_value wide_bytes
is-s-a = refl

is-s-s : digest s_s ≡ d_s
unfolding sha256 digest_bytes hash_after compress rounds schedule first_words spell_batch spell_count spell_value wide_bytes
is-s-s = refl

is-s-t : digest s_t ≡ d_t
unfolding sha256 digest_bytes hash_after compress rounds schedule first_words spell_batch spell_count spell_value wide_bytes
is-s-t = refl

is-s-v : digest s_v ≡ d_v
unfolding sha256 digest_bytes hash_after compress rounds schedule first_words spell_batch spell_count spell_value wide_bytes
is-s-v = refl

abbrev IsOne : List ℕ → Type 0
IsOne s = IsOneOf pairs s

these-differ : all_differ pairs ≡ true
these-differ = refl

one-empty : IsOne []
one-empty = record { digest_of = _; one = inl refl; is = refl }

one-value : IsOne value
one-value = record { digest_of = _; one = (inr (inl refl)); is = is-value }

one-nil : IsOne nil
one-nil = record { digest_of = _; one = (inr (inr (inl refl))); is = is-nil }

one-s-z : IsOne s_z
one-s-z = record { digest_of = _; one = (inr (inr (inr (inl refl)))); is = is-s-z }

one-s-u : IsOne s_u
one-s-u = record { digest_of = _; one = (inr (inr (inr (inr (inl refl))))); is = is-s-u }

one-s-y : IsOne s_y
one-s-y = record { digest_of = _; one = (inr (inr (inr (inr (inr (inl refl)))))); is = is-s-y }

one-s-x : IsOne s_x
one-s-x = record { digest_of = _; one = (inr (inr (inr (inr (inr (inr (inl refl))))))); is = is-s-x }

one-s-a : IsOne s_a
one-s-a = record { digest_of = _; one = (inr (inr (inr (inr (inr (inr (inr (inl refl)))))))); is = is-s-a }

one-s-s : IsOne s_s
one-s-s = record { digest_of = _; one = (inr (inr (inr (inr (inr (inr (inr (inr (inl refl))))))))); is = is-s-s }

one-s-t : IsOne s_t
one-s-t = record { digest_of = _; one = (inr (inr (inr (inr (inr (inr (inr (inr (inr (inl refl)))))))))); is = is-s-t }

one-s-v : IsOne s_v
one-s-v = record { digest_of = _; one = (inr (inr (inr (inr (inr (inr (inr (inr (inr (inr (inl refl))))))))))); is = is-s-v }

strings-0-z : (makes q 0 [] (told m_z) 0).strings ≡ value ∷ s_z ∷ []
unfolding sha256 digest_bytes hash_after compress rounds schedule first_words spell_batch spell_count spell_value wide_bytes
strings-0-z = refl

strings-0-u : (makes q 0 l0_1 (told m_u) 1).strings ≡ nil ∷ s_u ∷ []
unfolding sha256 digest_bytes hash_after compress rounds schedule first_words spell_batch spell_count spell_value wide_bytes
strings-0-u = refl

strings-0-y : (makes q 0 l0_2 (told m_y) 2).strings ≡ nil ∷ s_y ∷ []
unfolding sha256 digest_bytes hash_after compress rounds schedule first_words spell_batch spell_count spell_value wide_bytes
strings-0-y = refl

strings-0-x : (makes q 0 l0_3 (told m_x) 3).strings ≡ s_x ∷ []
unfolding sha256 digest_bytes hash_after compress rounds schedule first_words spell_batch spell_count spell_value wide_bytes
strings-0-x = refl

strings-0-a : (makes q 0 l0_4 (told m_a) 4).strings ≡ s_a ∷ []
unfolding sha256 digest_bytes hash_after compress rounds schedule first_words spell_batch spell_count spell_value wide_bytes
strings-0-a = refl

strings-1-z : (makes q 1 [] (told m_z) 0).strings ≡ value ∷ s_z ∷ []
unfolding sha256 digest_bytes hash_after compress rounds schedule first_words spell_batch spell_count spell_value wide_bytes
strings-1-z = refl

strings-1-u : (makes q 1 l1_1 (told m_u) 1).strings ≡ nil ∷ s_u ∷ []
unfolding sha256 digest_bytes hash_after compress rounds schedule first_words spell_batch spell_count spell_value wide_bytes
strings-1-u = refl

strings-1-y : (makes q 1 l1_2 (told m_y) 2).strings ≡ nil ∷ s_y ∷ []
unfolding sha256 digest_bytes hash_after compress rounds schedule first_words spell_batch spell_count spell_value wide_bytes
strings-1-y = refl

strings-1-x : (makes q 1 l1_3 (told m_x) 3).strings ≡ s_x ∷ []
unfolding sha256 digest_bytes hash_after compress rounds schedule first_words spell_batch spell_count spell_value wide_bytes
strings-1-x = refl

strings-1-s : (makes q 1 l1_4 (told m_s) 4).strings ≡ nil ∷ s_s ∷ []
unfolding sha256 digest_bytes hash_after compress rounds schedule first_words spell_batch spell_count spell_value wide_bytes
strings-1-s = refl

strings-1-t : (makes q 1 l1_5 (told m_t) 5).strings ≡ s_t ∷ []
unfolding sha256 digest_bytes hash_after compress rounds schedule first_words spell_batch spell_count spell_value wide_bytes
strings-1-t = refl

strings-1-v : (makes q 1 l1_6 (told m_v) 6).strings ≡ s_v ∷ []
unfolding sha256 digest_bytes hash_after compress rounds schedule first_words spell_batch spell_count spell_value wide_bytes
strings-1-v = refl

strings-2-u : (makes q 2 [] (told m_u) 0).strings ≡ nil ∷ s_u ∷ []
unfolding sha256 digest_bytes hash_after compress rounds schedule first_words spell_batch spell_count spell_value wide_bytes
strings-2-u = refl

strings-2-s : (makes q 2 l2_1 (told m_s) 1).strings ≡ nil ∷ s_s ∷ []
unfolding sha256 digest_bytes hash_after compress rounds schedule first_words spell_batch spell_count spell_value wide_bytes
strings-2-s = refl

strings-2-t : (makes q 2 l2_2 (told m_t) 2).strings ≡ s_t ∷ []
unfolding sha256 digest_bytes hash_after compress rounds schedule first_words spell_batch spell_count spell_value wide_bytes
strings-2-t = refl

of-z : (s : List ℕ) → In s (value ∷ s_z ∷ []) → IsOne s
of-z s (inl e) = subst IsOne (sym e) one-value
of-z s (inr (inl e)) = subst IsOne (sym e) one-s-z
of-z s (inr (inr k)) = absurd k

of-u : (s : List ℕ) → In s (nil ∷ s_u ∷ []) → IsOne s
of-u s (inl e) = subst IsOne (sym e) one-nil
of-u s (inr (inl e)) = subst IsOne (sym e) one-s-u
of-u s (inr (inr k)) = absurd k

of-y : (s : List ℕ) → In s (nil ∷ s_y ∷ []) → IsOne s
of-y s (inl e) = subst IsOne (sym e) one-nil
of-y s (inr (inl e)) = subst IsOne (sym e) one-s-y
of-y s (inr (inr k)) = absurd k

of-x : (s : List ℕ) → In s (s_x ∷ []) → IsOne s
of-x s (inl e) = subst IsOne (sym e) one-s-x
of-x s (inr k) = absurd k

of-a : (s : List ℕ) → In s (s_a ∷ []) → IsOne s
of-a s (inl e) = subst IsOne (sym e) one-s-a
of-a s (inr k) = absurd k

of-s : (s : List ℕ) → In s (nil ∷ s_s ∷ []) → IsOne s
of-s s (inl e) = subst IsOne (sym e) one-nil
of-s s (inr (inl e)) = subst IsOne (sym e) one-s-s
of-s s (inr (inr k)) = absurd k

of-t : (s : List ℕ) → In s (s_t ∷ []) → IsOne s
of-t s (inl e) = subst IsOne (sym e) one-s-t
of-t s (inr k) = absurd k

of-v : (s : List ℕ) → In s (s_v ∷ []) → IsOne s
of-v s (inl e) = subst IsOne (sym e) one-s-v
of-v s (inr k) = absurd k

of-list-0 : (x : Item Message) (s : List ℕ) → In x l0_5 → In s x.made.strings → IsOne s
of-list-0 x s (inl e) h = of-a s (subst (λ (z : List (List ℕ)). In s z) (ap (λ (z : Item Message). z.made.strings) e ∙ strings-0-a) h)
of-list-0 x s (inr (inl e)) h = of-x s (subst (λ (z : List (List ℕ)). In s z) (ap (λ (z : Item Message). z.made.strings) e ∙ strings-0-x) h)
of-list-0 x s (inr (inr (inl e))) h = of-y s (subst (λ (z : List (List ℕ)). In s z) (ap (λ (z : Item Message). z.made.strings) e ∙ strings-0-y) h)
of-list-0 x s (inr (inr (inr (inl e)))) h = of-u s (subst (λ (z : List (List ℕ)). In s z) (ap (λ (z : Item Message). z.made.strings) e ∙ strings-0-u) h)
of-list-0 x s (inr (inr (inr (inr (inl e))))) h = of-z s (subst (λ (z : List (List ℕ)). In s z) (ap (λ (z : Item Message). z.made.strings) e ∙ strings-0-z) h)
of-list-0 x s (inr (inr (inr (inr (inr j))))) h = absurd j

of-list-1 : (x : Item Message) (s : List ℕ) → In x l1_7 → In s x.made.strings → IsOne s
of-list-1 x s (inl e) h = of-v s (subst (λ (z : List (List ℕ)). In s z) (ap (λ (z : Item Message). z.made.strings) e ∙ strings-1-v) h)
of-list-1 x s (inr (inl e)) h = of-t s (subst (λ (z : List (List ℕ)). In s z) (ap (λ (z : Item Message). z.made.strings) e ∙ strings-1-t) h)
of-list-1 x s (inr (inr (inl e))) h = of-s s (subst (λ (z : List (List ℕ)). In s z) (ap (λ (z : Item Message). z.made.strings) e ∙ strings-1-s) h)
of-list-1 x s (inr (inr (inr (inl e)))) h = of-x s (subst (λ (z : List (List ℕ)). In s z) (ap (λ (z : Item Message). z.made.strings) e ∙ strings-1-x) h)
of-list-1 x s (inr (inr (inr (inr (inl e))))) h = of-y s (subst (λ (z : List (List ℕ)). In s z) (ap (λ (z : Item Message). z.made.strings) e ∙ strings-1-y) h)
of-list-1 x s (inr (inr (inr (inr (inr (inl e)))))) h = of-u s (subst (λ (z : List (List ℕ)). In s z) (ap (λ (z : Item Message). z.made.strings) e ∙ strings-1-u) h)
of-list-1 x s (inr (inr (inr (inr (inr (inr (inl e))))))) h = of-z s (subst (λ (z : List (List ℕ)). In s z) (ap (λ (z : Item Message). z.made.strings) e ∙ strings-1-z) h)
of-list-1 x s (inr (inr (inr (inr (inr (inr (inr j))))))) h = absurd j

of-list-2 : (x : Item Message) (s : List ℕ) → In x l2_3 → In s x.made.strings → IsOne s
of-list-2 x s (inl e) h = of-t s (subst (λ (z : List (List ℕ)). In s z) (ap (λ (z : Item Message). z.made.strings) e ∙ strings-2-t) h)
of-list-2 x s (inr (inl e)) h = of-s s (subst (λ (z : List (List ℕ)). In s z) (ap (λ (z : Item Message). z.made.strings) e ∙ strings-2-s) h)
of-list-2 x s (inr (inr (inl e))) h = of-u s (subst (λ (z : List (List ℕ)). In s z) (ap (λ (z : Item Message). z.made.strings) e ∙ strings-2-u) h)
of-list-2 x s (inr (inr (inr j))) h = absurd j

abbrev last : World Message
last = world l0_5 l1_7 l2_3

of-world : (s : List ℕ) → IsString last s → IsOne s
of-world s (inl e) = subst IsOne (sym e) one-empty
of-world s (inr h) = go (eqb h.node 0) (eqb h.node 1) (eqb h.node 2) h.taken
  where
    go : (t u r : Bool) → In h.item (cond t l0_5 (cond u l1_7 (cond r l2_3 []))) → IsOne s
    go true u r k = of-list-0 h.item s k h.hashed
    go false true r k = of-list-1 h.item s k h.hashed
    go false false true k = of-list-2 h.item s k h.hashed
    go false false false k = absurd k

separate : Separate (IsString last)
separate = separate-by pairs these-differ last of-world

-- ---- Two correct replicas differ

pub batch-no-nil : ◌≡◌ {A = Value} (Value_batch b) Value_nil → ⊥
batch-no-nil h = absurd cc

no-broadcast : IsBroadcast loose q last → ⊥
no-broadcast h = batch-no-nil (h.agreement 0 1 0 (Value_batch b) Value_nil refl refl delivers-0 delivers-1)

pub loose-commits-are-not-safe : IsNotSafe loose
loose-commits-are-not-safe = record {
  params = q;
  world = last;
  good = good;
  reached = reached-15;
  separate = separate;
  broken = no-broadcast;
}
