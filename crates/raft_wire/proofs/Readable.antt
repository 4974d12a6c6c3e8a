-- A value can be decoded exactly if the relation gives it some bytes.
use Rattle.std.proofs.Common.{◌<◌, ◌^◌, ℕ, List, [], ◌∷◌, ◌++◌, refl, sym, subst, inl, inr}
use Rattle.iss_base.specs.Lists.{In}
use Rattle.iss_request.specs.Fields.{IsReadAgain}
use Rattle.iss_request.specs.Formats.{parse_value, spell_value}
use Rattle.iss_request.specs.declared.requests.Batch.{Batch}
use Rattle.iss_request.specs.declared.requests.Value.TheVariants.{Batch as Value_batch}
use Rattle.iss_sb.proofs.Read.{read-again}
use Rattle.iss_sb.proofs.Contents.{batch-table}
use Rattle.raft_wire.specs.declared.entries.Entry.{Entry}
use Rattle.iss_sb.specs.declared.content.Content.{Content}
use Rattle.iss_sb.specs.declared.content.Content.TheVariants.{Nil, Holds, Mark}
use Rattle.raft_wire.specs.declared.messages.Message.{Message}
use Rattle.iss_sb.specs.Content.{IsSpelledContent}
use Rattle.raft_wire.specs.Entries.{AreSpelledEntries, IsSpelledEntry}
use Rattle.raft_wire.specs.Messages.{IsSpelledMessage, parse, spell}
use Rattle.raft_wire.proofs.EntryTable.{front-whole}
use Rattle.raft_wire.proofs.MessageGrammar.{message-grammar, message-related}

module _ (version : ℕ) where
  -- ---- Messages

  pub spelled-read : (msg : Message) (bytes : List ℕ) → IsSpelledMessage version msg bytes → IsReadAgain (spell version) (parse version) msg
  spelled-read msg bytes h = read-again (spell version) (parse version) (message-grammar version) bytes [] msg ((message-related version msg bytes).1 h)

  pub read-spelled : (msg : Message) → IsReadAgain (spell version) (parse version) msg → IsSpelledMessage version msg (spell version msg)
  read-spelled msg h = (message-related version msg (spell version msg)).0 (front-whole (parse version) msg (spell version msg) h)

  -- ---- Entries

  pub record HasBytes (e : Entry) : Type 0 where
    pub bytes : List ℕ
    pub spelled : IsSpelledEntry version e bytes

  abbrev pub HaveBytes : List Entry → Type 0
  HaveBytes es = (e : Entry) → In e es → HasBytes e

  pub entries-have : (es : List Entry) (bytes : List ℕ) → AreSpelledEntries version es bytes → HaveBytes es
  entries-have [] bytes h e i = absurd i
  entries-have (x ∷ es) bytes h e (inl q) = subst (λ (z : Entry). HasBytes z) (sym q) (record { bytes = h.0; spelled = h.2 })
  entries-have (x ∷ es) bytes h e (inr i) = entries-have es h.1 h.3 e i

  pub have-entries : (es : List Entry) → HaveBytes es → (bytes : List ℕ) × AreSpelledEntries version es bytes
  have-entries [] h = ([], refl)
  have-entries (x ∷ es) h =
      let first = h x (inl refl) in
      let others = have-entries es (λ e i. h e (inr i)) in
      (first.bytes ++ others.0, (first.bytes, others.0, first.spelled, others.1, refl))

  entry-has : (term : ℕ) (what : Content) (behind : List ℕ) → term < 2 ^ 16 → IsSpelledContent version what behind → HasBytes (record { term = term; what = what })
  entry-has term what behind lt h = record { bytes = _; spelled = record { term = lt; behind = behind; what = h; row = refl } }

  pub nil-has : (term : ℕ) → term < 2 ^ 16 → HasBytes (record { term = term; what = Nil })
  nil-has term lt = entry-has term Nil (0 ∷ []) lt refl

  pub mark-has : (term : ℕ) → term < 2 ^ 16 → HasBytes (record { term = term; what = Mark })
  mark-has term lt = entry-has term Mark (2 ∷ []) lt refl

  -- a batch that can be decoded
  pub batch-has : (term : ℕ) (b : Batch) → term < 2 ^ 16 → IsReadAgain (spell_value version) (parse_value version) (Value_batch b) → HasBytes (record { term = term; what = Holds b })
  batch-has term b lt h = let row = batch-table version b h in entry-has term (Holds b) row.0 lt row.1
