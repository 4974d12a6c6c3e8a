-- Bytes begin with a snapshot exactly if they begin with its encoding.
use Rattle.std.proofs.Common.{◌≡◌, ◌↔◌, ℕ, ◌-◌, ◌<◌, ◌^◌, ◌==◌, ◌&&◌, true, List, [], ◌∷◌, ◌++◌, length, append_assoc, refl, sym, ap, ap₂, ◌∙◌, subst}
use Rattle.std.specs.Prelude.{nat_lt}
use Rattle.std.specs.Int.{to_be_bytes, w16, w32, w64}
use Rattle.std.specs.List.{AllByRecursion, flat_map, list_all}
use Rattle.std.proofs.lemmas.Bool.{lt-ltb, ltb-true}
use Rattle.std.proofs.lemmas.Bool.Decides.{Decides-eqb}
use Rattle.iss_base.proofs.Lists.{and-true, both, is-eq}
use Rattle.iss_checkpoint.specs.declared.votes.Cert.{Cert}
use Rattle.iss_checkpoint.specs.declared.votes.Vote.{Vote}
use Rattle.iss_request.specs.declared.ids.Epoch.{Epoch}
use Rattle.iss_request.specs.Fields.{Good, IsReadAgain}
use Rattle.iss_request.specs.Formats.{parse_request, spell_request}
use Rattle.iss_request.specs.Parsing.{Parser, ◌>>=◌, byte, done, number}
use Rattle.iss_request.specs.declared.requests.Request.{Request}
use Rattle.iss_request.specs.declared.requests.Value.{Value}
use Rattle.iss_request.proofs.OneSpelling.{request_grammar}
use Rattle.iss_request.proofs.ParserLemmas.{byte_again, byte_parts, done_parts, number_again, number_parts, test_parts, test_passed, then_parts, wide16, wide32, wide64}
use Rattle.iss_snapshot.specs.declared.snapshots.Snapshot.{Snapshot}
use Rattle.iss_snapshot.specs.declared.snapshots.Span.{Span}
use Rattle.iss_snapshot.specs.Snapshots.{IsCertEntry, IsEncodable, IsVoteEntry, body_bytes, cert_entry, counted, fits, head_bytes, is_short, packet_entry, parse_body, parse_cert_entry, parse_counted, parse_epochs, parse_kind, parse_packet_entry, parse_snapshot, parse_span, parse_to, parse_vote_entry, snapshot_row, spell_snapshot, spell_values, vote_entry}
use Rattle.iss_snapshot.proofs.Elements.{Again, AreCounted, IsExact, exact-counted, last-again, of-grammar, then-again}
use Rattle.iss_snapshot.proofs.Entries.{IsShort, WereEpochs, epochs-again, epochs-read, exact-cert, exact-packet, exact-vote}

-- ---- rows

abbrev IsRequest : Request → Type 0
IsRequest q = IsReadAgain spell_request parse_request q

waiting-row : IsExact (λ xs. AreCounted IsRequest spell_request parse_request (of-grammar spell_request parse_request request_grammar) (2 ^ 32) xs) (counted w32 spell_request) (parse_counted w32 parse_request)
waiting-row = exact-counted IsRequest spell_request parse_request (of-grammar spell_request parse_request request_grammar) w32 (2 ^ 32) wide32

cert-row : IsExact (λ xs. AreCounted IsCertEntry cert_entry parse_cert_entry exact-cert (2 ^ 32) xs) (counted w32 cert_entry) (parse_counted w32 parse_cert_entry)
cert-row = exact-counted IsCertEntry cert_entry parse_cert_entry exact-cert w32 (2 ^ 32) wide32

vote-row : IsExact (λ xs. AreCounted IsVoteEntry vote_entry parse_vote_entry exact-vote (2 ^ 32) xs) (counted w32 vote_entry) (parse_counted w32 parse_vote_entry)
vote-row = exact-counted IsVoteEntry vote_entry parse_vote_entry exact-vote w32 (2 ^ 32) wide32

packet-row : IsExact (λ xs. AreCounted IsShort packet_entry parse_packet_entry exact-packet (2 ^ 16) xs) (counted w16 packet_entry) (parse_counted w16 parse_packet_entry)
packet-row = exact-counted IsShort packet_entry parse_packet_entry exact-packet w16 (2 ^ 16) wide16

all-short : (xs : List (List ℕ)) → list_all is_short xs ≡ true → AllByRecursion IsShort xs
all-short [] h = tt
all-short (x ∷ xs) h = let a = and-true (is_short x) (list_all is_short xs) h in (ltb-true (length x) (2 ^ 32) a.0, all-short xs a.1)

short-all : (xs : List (List ℕ)) → AllByRecursion IsShort xs → list_all is_short xs ≡ true
short-all [] h = refl
short-all (x ∷ xs) h = both (is_short x) (list_all is_short xs) (lt-ltb (length x) (2 ^ 32) h.0) (short-all xs h.1)

-- ---- the test of what fits

pub record Fitting (s : Snapshot) : Type 0 where
  pub above : s.from.0 < s.to.0
  pub count : length s.epochs ≡ s.to.0 - s.from.0
  pub waiting : length s.waiting < 2 ^ 32
  pub certs : length s.certs < 2 ^ 32
  pub votes : length s.votes < 2 ^ 32
  pub early : length s.early < 2 ^ 16
  pub short : list_all is_short s.early ≡ true

pub fitting-is : (s : Snapshot) → fits s ≡ true → Fitting s
fitting-is s h =
    let t = and-true ((nat_lt s.from.0 s.to.0 && (length s.epochs == s.to.0 - s.from.0)) && nat_lt (length s.waiting) (2 ^ 32)) _ h in
    let u = and-true (nat_lt s.from.0 s.to.0 && (length s.epochs == s.to.0 - s.from.0)) (nat_lt (length s.waiting) (2 ^ 32)) t.0 in
    let v = and-true (nat_lt s.from.0 s.to.0) (length s.epochs == s.to.0 - s.from.0) u.0 in
    let w = and-true (nat_lt (length s.certs) (2 ^ 32) && nat_lt (length s.votes) (2 ^ 32)) _ t.1 in
    let x = and-true (nat_lt (length s.certs) (2 ^ 32)) (nat_lt (length s.votes) (2 ^ 32)) w.0 in
    let y = and-true (nat_lt (length s.early) (2 ^ 16)) (list_all is_short s.early) w.1 in
    record {
      above = ltb-true s.from.0 s.to.0 v.0;
      count = is-eq (length s.epochs) (s.to.0 - s.from.0) v.1;
      waiting = ltb-true (length s.waiting) (2 ^ 32) u.1;
      certs = ltb-true (length s.certs) (2 ^ 32) x.0;
      votes = ltb-true (length s.votes) (2 ^ 32) x.1;
      early = ltb-true (length s.early) (2 ^ 16) y.0;
      short = y.1;
    }

pub is-fitting : (s : Snapshot) → Fitting s → fits s ≡ true
is-fitting s h =
    both ((nat_lt s.from.0 s.to.0 && (length s.epochs == s.to.0 - s.from.0)) && nat_lt (length s.waiting) (2 ^ 32)) _
    (both (nat_lt s.from.0 s.to.0 && (length s.epochs == s.to.0 - s.from.0)) (nat_lt (length s.waiting) (2 ^ 32))
    (both (nat_lt s.from.0 s.to.0) (length s.epochs == s.to.0 - s.from.0) (lt-ltb s.from.0 s.to.0 h.above) ((Decides-eqb (length s.epochs) (s.to.0 - s.from.0)).1 h.count))
    (lt-ltb (length s.waiting) (2 ^ 32) h.waiting))
    (both (nat_lt (length s.certs) (2 ^ 32) && nat_lt (length s.votes) (2 ^ 32)) _
    (both (nat_lt (length s.certs) (2 ^ 32)) (nat_lt (length s.votes) (2 ^ 32)) (lt-ltb (length s.certs) (2 ^ 32) h.certs) (lt-ltb (length s.votes) (2 ^ 32) h.votes))
    (both (nat_lt (length s.early) (2 ^ 16)) (list_all is_short s.early) (lt-ltb (length s.early) (2 ^ 16) h.early) h.short))

-- ---- the head

abbrev span_bytes : Span → List ℕ
span_bytes p = 5 ∷ (to_be_bytes w64 p.from.0 ++ to_be_bytes w64 p.to.0)

pub record IsSpan (p : Span) : Type 0 where
  pub from_fits : p.from.0 < 2 ^ 64
  pub to_fits : p.to.0 < 2 ^ 64
  pub above : p.from.0 < p.to.0

abbrev make_span : ℕ → ℕ → Span
make_span from to = record { from = record { 0 = from }; to = record { 0 = to } }

abbrev span_to : ℕ → Parser Span
span_to from = parse_to from >>= λ to. done (make_span from to)

abbrev span_from : ℕ → Parser Span
span_from kind = number w64 >>= span_to

span-again : (p : Span) → IsSpan p → Again (span_bytes p) parse_span p
unfolding parse_span parse_kind parse_to
span-again p h =
    then-again parse_kind span_from (5 ∷ []) (to_be_bytes w64 p.from.0 ++ to_be_bytes w64 p.to.0) 5 p
    (λ rest. test_passed (λ n. n == 5) byte (5 ∷ rest) rest 5 (byte_again 5 rest) refl)
    (then-again (number w64) span_to (to_be_bytes w64 p.from.0) (to_be_bytes w64 p.to.0) p.from.0 p
    (λ rest. number_again w64 (2 ^ 64) wide64 p.from.0 rest h.from_fits)
    (last-again (parse_to p.from.0) (make_span p.from.0) (to_be_bytes w64 p.to.0) p.to.0
    (λ rest. test_passed (λ n. nat_lt p.from.0 n) (number w64) (to_be_bytes w64 p.to.0 ++ rest) rest p.to.0
    (number_again w64 (2 ^ 64) wide64 p.to.0 rest h.to_fits) (lt-ltb p.from.0 p.to.0 h.above))))

record WasSpan (bytes rest : List ℕ) (p : Span) : Type 0 where
  fit : IsSpan p
  parts : bytes ≡ span_bytes p ++ rest

span-read : (bytes rest : List ℕ) (p : Span) → parse_span bytes ≡ Good p rest → WasSpan bytes rest p
unfolding parse_span parse_kind parse_to
span-read bytes rest p h =
    let a = then_parts parse_kind span_from bytes rest p h in
    let b = then_parts (number w64) span_to a.mid rest p a.second in
    let c = then_parts (parse_to b.thing) (λ (to : ℕ). done (make_span b.thing to)) b.mid rest p b.second in
    let d = done_parts (make_span b.thing c.thing) p c.mid rest c.second in
    let kind = test_parts (λ n. n == 5) byte bytes a.mid a.thing a.first in
    let from = number_parts w64 (2 ^ 64) wide64 a.mid b.mid b.thing b.first in
    let t = test_parts (λ n. nat_lt b.thing n) (number w64) b.mid c.mid c.thing c.first in
    let to = number_parts w64 (2 ^ 64) wide64 b.mid c.mid c.thing t.0 in
    let x : List ℕ = to_be_bytes w64 b.thing in
    let y : List ℕ = to_be_bytes w64 c.thing in
    subst (λ (z : Span). WasSpan bytes rest z) d.0 (record {
      fit = record { from_fits = from.below; to_fits = to.below; above = ltb-true b.thing c.thing t.1 };
      parts =
          byte_parts bytes a.mid a.thing kind.0
          ∙ (ap (λ (n : ℕ). n ∷ a.mid) (is-eq a.thing 5 kind.1)
          ∙ ap (λ (z : List ℕ). 5 ∷ z) (from.parts ∙ (ap (λ (z : List ℕ). x ++ z) (to.parts ∙ ap (λ (z : List ℕ). y ++ z) d.1)
          ∙ sym (append_assoc x y rest))));
    })

-- ---- the body

module _ (p : Span) (epochs : List (List Value)) where
  abbrev make : ℕ → List Request → List Cert → List Vote → List (List ℕ) → Snapshot
  make leaf waiting certs votes early = record {
    from = p.from;
    to = p.to;
    epochs = epochs;
    leaf = leaf;
    waiting = waiting;
    certs = certs;
    votes = votes;
    early = early;
  }

  abbrev after_votes : ℕ → List Request → List Cert → List Vote → Parser Snapshot
  after_votes leaf waiting certs votes = parse_counted w16 parse_packet_entry >>= λ early. done (make leaf waiting certs votes early)

  abbrev after_certs : ℕ → List Request → List Cert → Parser Snapshot
  after_certs leaf waiting certs = parse_counted w32 parse_vote_entry >>= after_votes leaf waiting certs

  abbrev after_waiting : ℕ → List Request → Parser Snapshot
  after_waiting leaf waiting = parse_counted w32 parse_cert_entry >>= after_certs leaf waiting

  abbrev after_leaf : ℕ → Parser Snapshot
  after_leaf leaf = parse_counted w32 parse_request >>= after_waiting leaf

  record IsBody (s : Snapshot) : Type 0 where
    from_is : s.from ≡ p.from
    to_is : s.to ≡ p.to
    epochs_are : s.epochs ≡ epochs
    leaf_fits : s.leaf < 2 ^ 32
    waiting : AreCounted IsRequest spell_request parse_request (of-grammar spell_request parse_request request_grammar) (2 ^ 32) s.waiting
    certs : AreCounted IsCertEntry cert_entry parse_cert_entry exact-cert (2 ^ 32) s.certs
    votes : AreCounted IsVoteEntry vote_entry parse_vote_entry exact-vote (2 ^ 32) s.votes
    early : AreCounted IsShort packet_entry parse_packet_entry exact-packet (2 ^ 16) s.early

  record WasBody (bytes rest : List ℕ) (s : Snapshot) : Type 0 where
    fit : IsBody s
    parts : bytes ≡ body_bytes s ++ rest

  five : (a b c d e rest : List ℕ) → (a ++ (b ++ (c ++ (d ++ e)))) ++ rest ≡ a ++ (b ++ (c ++ (d ++ (e ++ rest))))
  five a b c d e rest = simp append_assoc

  body-read : (bytes rest : List ℕ) (s : Snapshot) → parse_body p epochs bytes ≡ Good s rest → WasBody bytes rest s
  unfolding parse_body
  body-read bytes rest s h =
      let a = then_parts (number w32) after_leaf bytes rest s h in
      let b = then_parts (parse_counted w32 parse_request) (after_waiting a.thing) a.mid rest s a.second in
      let c = then_parts (parse_counted w32 parse_cert_entry) (after_certs a.thing b.thing) b.mid rest s b.second in
      let d = then_parts (parse_counted w32 parse_vote_entry) (after_votes a.thing b.thing c.thing) c.mid rest s c.second in
      let e = then_parts (parse_counted w16 parse_packet_entry) (λ (early : List (List ℕ)). done (make a.thing b.thing c.thing d.thing early)) d.mid rest s d.second in
      let z = done_parts (make a.thing b.thing c.thing d.thing e.thing) s e.mid rest e.second in
      let leaf = number_parts w32 (2 ^ 32) wide32 bytes a.mid a.thing a.first in
      let k : List ℕ = to_be_bytes w32 a.thing in
      let l : List ℕ = counted w32 spell_request b.thing in
      let m : List ℕ = counted w32 cert_entry c.thing in
      let n : List ℕ = counted w32 vote_entry d.thing in
      let o : List ℕ = counted w16 packet_entry e.thing in
      let last : d.mid ≡ o ++ rest = packet-row.parts d.mid e.mid e.thing e.first ∙ ap (λ (x : List ℕ). o ++ x) z.1 in
      let more : b.mid ≡ m ++ (n ++ (o ++ rest)) = cert-row.parts b.mid c.mid c.thing c.first ∙ ap (λ (x : List ℕ). m ++ x) (vote-row.parts c.mid d.mid d.thing d.first ∙ ap (λ (x : List ℕ). n ++ x) last) in
      let all : bytes ≡ k ++ (l ++ (m ++ (n ++ (o ++ rest)))) = leaf.parts ∙ ap (λ (x : List ℕ). k ++ x) (waiting-row.parts a.mid b.mid b.thing b.first ∙ ap (λ (x : List ℕ). l ++ x) more) in
      subst (λ (x : Snapshot). WasBody bytes rest x) z.0 (record {
        fit = record {
          from_is = refl;
          to_is = refl;
          epochs_are = refl;
          leaf_fits = leaf.below;
          waiting = waiting-row.fit a.mid b.mid b.thing b.first;
          certs = cert-row.fit b.mid c.mid c.thing c.first;
          votes = vote-row.fit c.mid d.mid d.thing d.first;
          early = packet-row.fit d.mid e.mid e.thing e.first;
        };
        parts = all ∙ sym (five k l m n o rest);
      })

  body-again : (leaf : ℕ) (waiting : List Request) (certs : List Cert) (votes : List Vote) (early : List (List ℕ)) → IsBody (make leaf waiting certs votes early) →
      Again (body_bytes (make leaf waiting certs votes early)) (parse_body p epochs) (make leaf waiting certs votes early)
  unfolding parse_body
  body-again leaf waiting certs votes early h =
      let s : Snapshot = make leaf waiting certs votes early in
      let o : List ℕ = counted w16 packet_entry early in
      let n : List ℕ = counted w32 vote_entry votes ++ o in
      let m : List ℕ = counted w32 cert_entry certs ++ n in
      let l : List ℕ = counted w32 spell_request waiting ++ m in
      then-again (number w32) after_leaf (to_be_bytes w32 leaf) l leaf s (λ rest. number_again w32 (2 ^ 32) wide32 leaf rest h.leaf_fits)
      (then-again (parse_counted w32 parse_request) (after_waiting leaf) (counted w32 spell_request waiting) m waiting s (waiting-row.again waiting h.waiting)
      (then-again (parse_counted w32 parse_cert_entry) (after_certs leaf waiting) (counted w32 cert_entry certs) n certs s (cert-row.again certs h.certs)
      (then-again (parse_counted w32 parse_vote_entry) (after_votes leaf waiting certs) (counted w32 vote_entry votes) o votes s (vote-row.again votes h.votes)
      (last-again (parse_counted w16 parse_packet_entry) (λ (x : List (List ℕ)). make leaf waiting certs votes x) o early (packet-row.again early h.early)))))

-- ---- the whole

module _ (version : ℕ) (slots : List Value → ℕ → ℕ) (log : List Value) where
  abbrev after_span : Span → Parser Snapshot
  after_span p = parse_epochs version slots (p.to.0 - p.from.0) p.from.0 log >>= λ epochs. parse_body p epochs

  abbrev span_of : Snapshot → Span
  span_of s = record { from = s.from; to = s.to }

  row-again : (s : Snapshot) → IsEncodable version slots log s → Again (snapshot_row version s) (parse_snapshot version slots log) s
  unfolding parse_snapshot
  row-again s h =
      let f = fitting-is s h.fitting in
      then-again parse_span after_span (head_bytes s) (flat_map (spell_values version) s.epochs ++ body_bytes s) (span_of s) s
      (span-again (span_of s) (record { from_fits = h.from_fits; to_fits = h.to_fits; above = f.above }))
      (then-again (parse_epochs version slots (s.to.0 - s.from.0) s.from.0 log) (λ (epochs : List (List Value)). parse_body (span_of s) epochs)
      (flat_map (spell_values version) s.epochs) (body_bytes s) s.epochs s
      (subst (λ (n : ℕ). Again (flat_map (spell_values version) s.epochs) (parse_epochs version slots n s.from.0 log) s.epochs) f.count
      (epochs-again version slots s.epochs s.from.0 log h.epochs))
      (body-again (span_of s) s.epochs s.leaf s.waiting s.certs s.votes s.early (record {
        from_is = refl;
        to_is = refl;
        epochs_are = refl;
        leaf_fits = h.leaf_fits;
        waiting = record { few = f.waiting; all = h.waiting };
        certs = record { few = f.certs; all = h.certs };
        votes = record { few = f.votes; all = h.votes };
        early = record { few = f.early; all = all-short s.early f.short };
      })))

  pub spelled-row : (s : Snapshot) → fits s ≡ true → spell_snapshot version s ≡ snapshot_row version s
  unfolding spell_snapshot
  spelled-row s h = rw h refl

  three : (a b c rest : List ℕ) → (a ++ (b ++ c)) ++ rest ≡ a ++ (b ++ (c ++ rest))
  three a b c rest = simp append_assoc

  record WasSnapshot (bytes rest : List ℕ) (s : Snapshot) : Type 0 where
    fit : IsEncodable version slots log s
    parts : bytes ≡ snapshot_row version s ++ rest

  joined : (bytes mid more rest : List ℕ) (s : Snapshot) → WasSpan bytes mid (span_of s) →
      WereEpochs version slots (s.to.0 - s.from.0) s.from.0 log mid more s.epochs → WasBody (span_of s) s.epochs more rest s → WasSnapshot bytes rest s
  joined bytes mid more rest s p e w = record {
    fit = record {
      from_fits = p.fit.from_fits;
      to_fits = p.fit.to_fits;
      leaf_fits = w.fit.leaf_fits;
      fitting = is-fitting s (record {
        above = p.fit.above;
        count = e.count;
        waiting = w.fit.waiting.few;
        certs = w.fit.certs.few;
        votes = w.fit.votes.few;
        early = w.fit.early.few;
        short = short-all s.early w.fit.early.all;
      });
      epochs = e.fit;
      waiting = w.fit.waiting.all;
      certs = w.fit.certs.all;
      votes = w.fit.votes.all;
    };
    parts =
        p.parts
        ∙ (ap (λ (z : List ℕ). head_bytes s ++ z) (e.parts ∙ ap (λ (z : List ℕ). flat_map (spell_values version) s.epochs ++ z) w.parts)
        ∙ sym (three (head_bytes s) (flat_map (spell_values version) s.epochs) (body_bytes s) rest));
  }

  abbrev span_on : Epoch → Epoch → Span
  span_on from to = record { from = from; to = to }

  snapshot-read : (bytes rest : List ℕ) (s : Snapshot) → parse_snapshot version slots log bytes ≡ Good s rest → WasSnapshot bytes rest s
  unfolding parse_snapshot
  snapshot-read bytes rest s h =
      let a = then_parts parse_span after_span bytes rest s h in
      let p : Span = a.thing in
      let b = then_parts (parse_epochs version slots (p.to.0 - p.from.0) p.from.0 log) (λ (epochs : List (List Value)). parse_body p epochs) a.mid rest s a.second in
      let w = body-read p b.thing b.mid rest s b.second in
      let same : span_of s ≡ p = ap₂ span_on w.fit.from_is w.fit.to_is in
      subst (λ (z : Span). WasSpan bytes a.mid z → WereEpochs version slots (z.to.0 - z.from.0) z.from.0 log a.mid b.mid b.thing → WasBody z b.thing b.mid rest s → WasSnapshot bytes rest s) same
      (subst (λ (es : List (List Value)). WasSpan bytes a.mid (span_of s) → WereEpochs version slots (s.to.0 - s.from.0) s.from.0 log a.mid b.mid es → WasBody (span_of s) es b.mid rest s → WasSnapshot bytes rest s)
      w.fit.epochs_are (joined bytes a.mid b.mid rest s))
      (span-read bytes a.mid p a.first)
      (epochs-read version slots (p.to.0 - p.from.0) p.from.0 log a.mid b.mid b.thing b.first)
      w

  pub snapshot-exact : (s : Snapshot) (bytes rest : List ℕ) → (parse_snapshot version slots log bytes ≡ Good s rest) ↔ (IsEncodable version slots log s × (bytes ≡ spell_snapshot version s ++ rest))
  snapshot-exact s bytes rest = (
    λ h. let r = snapshot-read bytes rest s h in (r.fit, r.parts ∙ ap (λ (z : List ℕ). z ++ rest) (sym (spelled-row s r.fit.fitting))),
    λ h. ap (parse_snapshot version slots log) (h.1 ∙ ap (λ (z : List ℕ). z ++ rest) (spelled-row s h.0.fitting)) ∙ row-again s h.0 rest,
  )
