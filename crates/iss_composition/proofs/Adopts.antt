-- A certified piece is part of the log of a correct signer.
use Rattle.std.proofs.Common.{◌≡◌, inl, inr, ℕ, suc, ◌≤◌, ◌<◌, Bool, true, false, cond, eqb, List, [], ◌∷◌, ◌++◌, length, Some, None, refl, sym, ◌∙◌, arith}
use Rattle.iss_base.specs.Lists.{Chain, In, nth, push_all}
use Rattle.iss_base.proofs.Lists.{chain-part, first-cases, is-eq, nth-below, over-at}
use Rattle.iss_request.specs.declared.requests.Value.{Value}
use Rattle.iss_request.specs.declared.setups.Setup.{Setup}
use Rattle.iss_sb.specs.Evidence.{Module, Separate, is_correct}
use Rattle.iss_sb.specs.Laws.{IsSafe}
use Rattle.iss_rules.specs.Books.{Signed}
use Rattle.iss_composition.specs.Cluster.{Adopted, Backed, Cert, Cluster, IsTrueLog, Scheme, signers, vote_statement}
use Rattle.iss_rules.specs.SoundRules.{IsSoundRules}
use Rattle.iss_composition.specs.Ordered.{Among, AreChained, IsExact}
use Rattle.iss_rules.specs.Past.{Past, Piece, adopted_at, before, log_of, start_of}
use Rattle.iss_rules.specs.Rules.{Rules}
use Rattle.iss_composition.proofs.Agree.{separate-part}
use Rattle.iss_composition.proofs.Chains.{chain-injective}
use Rattle.iss_rules.proofs.Ending.{HasSlots}
use Rattle.iss_composition.proofs.Ends.{good-turned, turned}
use Rattle.iss_composition.proofs.Good.{Good, IsTrue, Voted}
use Rattle.iss_composition.proofs.Kept.{settled-of}
use Rattle.iss_rules.proofs.Logs.{Settled}
use Rattle.iss_rules.proofs.Pieces.{adopted-far, in_epoch}

module _ {Msg : Type 0} (s : Setup) (S : Scheme) (R : Rules) (M : Module Msg) (safe : IsSafe M) (sound : IsSoundRules s M R) (v w : Cluster Msg)
    (exact : IsExact s S w) (sep : Separate (Among w.strings)) (g : Good s R M v S) (i : ℕ) (piece : Piece) (cert : Cert)
    (ad : Adopted s S R M v w i piece cert) where
  abbrev c : Past Msg
  c = v.pasts i

  abbrev t : Past Msg
  t = turned c (piece ∷ [])

  abbrev start_log : List Value
  start_log = before R M i c piece.epoch

  abbrev whole : List Value
  whole = push_all piece.values start_log

  sep_v : Separate (Among v.strings)
  sep_v = separate-part (Among w.strings) (Among v.strings) ad.quiet.strings sep

  -- the vote of a correct signer
  signer : (k : ℕ) × In k (signers cert.signed) × (is_correct s k ≡ true)
  signer = exact.quorums (signers cert.signed) ad.quorum

  abbrev vote : Signed
  vote = record { by = signer.0; statement = vote_statement s piece.epoch cert.chain cert.number }

  in_book : In vote v.book
  in_book = ad.votes signer.0 signer.1 signer.2

  -- its vote certifies the piece
  voted : Voted s R M v S piece.epoch cert.chain cert.number
  voted = g.voted vote piece.epoch cert.chain cert.number in_book signer.2 refl

  chained : AreChained S
  chained = exact.chained vote piece.epoch cert.chain cert.number (ad.quiet.old_book vote in_book) refl

  same : voted.log ≡ whole
  same = chain-injective S chained w.strings sep (ad.quiet.strings [] g.root) voted.log whole voted.spelled ad.piece_spelled
      (λ x h. ad.quiet.strings x (voted.hashed x h)) ad.piece_hashed (sym voted.chained ∙ ad.chained)

  whole_true : IsTrueLog s R M v.pasts whole
  whole_true = rw same at voted.is

  reached_c : start_of R (log_of R M i c) c.epoch ≤ length (log_of R M i c)
  reached_c = g.reached i ad.correct

  settled : Settled R c
  settled = settled-of s S R M v g i ad.correct

  slots : HasSlots R
  slots = record { some = sound.some_slots; most = sound.most }

  piece_true : (k : ℕ) (x : Value) → nth piece.values k ≡ Some x → IsTrue s R M v piece.epoch k x
  piece_true k x n =
      let r = over-at piece.values start_log k x n in
      let h2 : Chain (Backed s R M v.pasts) (r.1.0 ++ (x ∷ r.0)) = rw r.1.1 at whole_true in
      let z = chain-part (Backed s R M v.pasts) r.1.0 x r.0 h2 in
      let e = in_epoch R slots M i c settled reached_c piece ad.epoch ad.whole r.0 r.3 (omega (arith, nth-below piece.values k x n, r.2)) in
      record { older = r.0; epoch = e.1; place = omega (arith, e.0, r.2); log = z.0; is = z.1 }

  pieces_true : (e k : ℕ) (x : Value) → adopted_at (piece ∷ c.adopted) e k ≡ Some x → (e < suc c.epoch) × IsTrue s R M v e k x
  pieces_true e k x h = elim (first-cases (adopted_at c.adopted e k) (cond (eqb piece.epoch e) (nth piece.values k) None) x h) [
    | inl a ↦ let y = g.adopted i e k x ad.correct a in (omega (arith, y.0), y.1)
    | inr a ↦ go (eqb piece.epoch e) refl a.1
  ]
    where
      go : (b : Bool) → eqb piece.epoch e ≡ b → cond b (nth piece.values k) None ≡ Some x → (e < suc c.epoch) × IsTrue s R M v e k x
      go true y z = let q : piece.epoch ≡ e = is-eq piece.epoch e y in (omega (arith, q, ad.epoch), rw (← q) (piece_true k x z))
      go false y z = absurd (cc)

  pub good-adopted : Good s R M w S
  good-adopted = good-turned s S R M safe sound v w sep g i ad.correct (piece ∷ []) ad.here ad.other ad.quiet
      (λ x e l low h named. ad.book x h) ad.hashed ad.spelled (adopted-far R slots M i c settled reached_c piece ad.epoch ad.whole) pieces_true (λ x e d q h okx st. g.voted x e d q (ad.book x h) okx st)
