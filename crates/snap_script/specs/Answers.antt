-- What a line is answered: JSON, the keys of each object in byte order; cited by the public clause of `Answer::line`.
use Rattle.std.specs.Prelude.{ℕ, true, List, [], ◌∷◌, ◌++◌, Option, Some, None, codes, map}
use Rattle.std.specs.Option.{option_map}
use Rattle.hex.specs.Hex.{encode_lower}
use Rattle.serde_json.specs.Data.{Data, null, boolean, string, array, object, no_members, member}
use Rattle.serde_json.specs.View.{items_of}
use Rattle.serde_json.specs.Written.{compact_text}
use Rattle.snap_path.specs.Text.{text_of}
use Rattle.snap_usage.specs.declared.usage.Usage.{Usage}
use Rattle.snap_record.specs.Kinds.{kind_word}
use Rattle.snap_call.specs.declared.config.ConfigField.{ConfigField}
use Rattle.snap_call.specs.declared.refusal.Refusal.TheVariants as refusals
use Rattle.snap_call.specs.declared.reply.Reply.{Reply}
use Rattle.snap_call.specs.declared.reply.Reply.TheVariants as replies
use Rattle.snap_history.specs.Entries.{call_word}
use Rattle.snap_pieces.specs.declared.line.Line.{Line}
use Rattle.snap_pieces.specs.Written.{line_data}
use Rattle.snap_script.specs.Restoring.{restore_words}
use Rattle.snap_script.specs.declared.restore.RestoreRefusal.{RestoreRefusal}
use Rattle.snap_script.specs.declared.answer.Shown.{Shown}
use Rattle.snap_script.specs.declared.answer.Shown.TheVariants as shown
use Rattle.snap_script.specs.declared.answer.QuotaInfo.{QuotaInfo}
use Rattle.snap_script.specs.declared.answer.TreeNode.{TreeNode}
use Rattle.snap_script.specs.declared.answer.JournalEntry.{JournalEntry}
use Rattle.snap_script.specs.declared.answer.RefusedOperation.{RefusedOperation}
use Rattle.snap_script.specs.declared.refused.Refused.{Refused}
use Rattle.snap_script.specs.declared.refused.Refused.TheVariants as refused
use Rattle.snap_script.specs.declared.answer.Answer.{Answer}
use Rattle.snap_script.specs.declared.answer.Answer.TheVariants as answers
use Rattle.snap_script.specs.declared.fault.Field.{Field}
use Rattle.snap_script.specs.declared.unknown.FieldRule.{FieldRule}
use Rattle.snap_script.specs.declared.unknown.FieldRule.TheVariants as rules
use Rattle.snap_script.specs.Faults.{field_name}
use Rattle.snap_values.specs.Values.{number_data, usage_data, text_data, digest_data, only, maybe, members_with_entries, info_data, mount_data, lease_data, change_data, refusal_name}
use Rattle.snap_script.specs.Refusals.{config_field_name, free_at_refusal, refused_from, refused_name}

-- a refusal: its name, over the limit what is free, where it is from, and the field that it is about, where that is told
abbrev pub refusal_data : Refused → Option Field → Data
refusal_data why of = object
    (member (codes "error") (string (refused_name why))
    (maybe (codes "free") (option_map usage_data (free_at_refusal why))
    (member (codes "from") (string (refused_from why))
    (maybe (codes "of") (option_map (λ field. string (field_name field)) of) no_members))))

-- the refusal of a store, with the field that is malformed
abbrev pub bad_config_data : ConfigField → Data
bad_config_data field = object
    (member (codes "error") (string (refusal_name refusals.BadArgument))
    (member (codes "field") (string (config_field_name field))
    (only (codes "from") (string (codes "book")))))

-- what a snapshot shows: null for nothing; a directory's mode; a file's mode and size, and its digest where its bytes aren't kept; a symlink's target
abbrev pub shown_data : Option Shown → Data
shown_data None = null
shown_data (Some (shown.Dir mode)) = object (only (codes "dir") (number_data mode))
shown_data (Some (shown.File mode size)) = object (member (codes "file") (number_data mode) (only (codes "size") (number_data size)))
shown_data (Some (shown.Sized mode size digest)) = object
    (member (codes "digest") (digest_data digest) (member (codes "file") (number_data mode) (only (codes "size") (number_data size))))
shown_data (Some (shown.Symlink target)) = object (only (codes "symlink") (text_data target))

-- a snapshot of a forest, with the word of its kind
abbrev pub node_data : TreeNode → Data
node_data node = object
    (member (codes "children") (number_data node.children)
    (member (codes "id") (number_data node.id)
    (member (codes "key") (string node.key)
    (member (codes "kind") (string (kind_word node.kind))
    (member (codes "parent") (string node.parent)
    (only (codes "usage") (usage_data node.usage)))))))

-- what a namespace may take and what it takes
abbrev pub quota_data : QuotaInfo → Data
quota_data quota = object
    (member (codes "charged") (usage_data quota.charged)
    (member (codes "committed") (usage_data quota.committed)
    (member (codes "free") (usage_data quota.free)
    (member (codes "limit") (usage_data quota.limit)
    (member (codes "open") (usage_data quota.active)
    (only (codes "spare") (usage_data quota.spare)))))))

-- an entry, with the word of its call: without an id, a key or a refusal where it has none, and with a charge, a line or a namespace where that is told
abbrev pub entry_data : JournalEntry → Data
entry_data told = object
    (member (codes "call") (string (call_word told.entry.call))
    (maybe (codes "charge") (option_map usage_data told.entry.charge)
    (maybe (codes "id") (option_map number_data told.entry.id)
    (maybe (codes "key") (option_map string told.entry.key)
    (maybe (codes "line") (option_map string told.line)
    (maybe (codes "ns") (option_map string told.namespace)
    (member (codes "number") (number_data told.entry.number)
    (maybe (codes "refused") (option_map (λ why. string (refusal_name why)) told.entry.refused)
    (only (codes "session") (number_data told.entry.session))))))))))

-- what the store replies to a call: a refusal over the limit has what is free, and of the others, Opened, Trimmed and Done, nothing is told but that it was done
abbrev pub reply_data : Reply → Data
reply_data (replies.Prepared id slot chain) = object
    (member (codes "chain") (array (items_of (map number_data chain)))
    (member (codes "id") (number_data id) (only (codes "slot") (number_data slot))))
reply_data (replies.Viewed id chain) = object (member (codes "chain") (array (items_of (map number_data chain))) (only (codes "id") (number_data id)))
reply_data (replies.Charged now) = object (only (codes "share") (usage_data now))
reply_data (replies.Committed id usage) = object (member (codes "id") (number_data id) (only (codes "usage") (usage_data usage)))
reply_data (replies.Discarded freed) = object (only (codes "freed") (usage_data freed))
reply_data (replies.Removed freed) = object (only (codes "freed") (usage_data freed))
reply_data (replies.Info info) = object (only (codes "info") (info_data info))
reply_data (replies.Usage usage) = object (only (codes "usage") (usage_data usage))
reply_data (replies.Mounts mounts) = object (only (codes "mounts") (array (items_of (map mount_data mounts))))
reply_data (replies.Page infos) = object (only (codes "infos") (array (items_of (map info_data infos))))
reply_data (replies.Swept removed leases freed) = object
    (member (codes "freed") (usage_data freed)
    (member (codes "leases") (number_data leases)
    (only (codes "removed") (array (items_of (map string removed))))))
reply_data (replies.Refused why) = refusal_data (refused.Book why) None
reply_data replies.Opened = object (only (codes "ok") (boolean true))
reply_data replies.Trimmed = object (only (codes "ok") (boolean true))
reply_data replies.Done = object (only (codes "ok") (boolean true))

-- lines of a saved store
abbrev pub saved_lines : List Line → Data
saved_lines lines = array (items_of (map line_data lines))

-- why a line of a saved store isn't taken
abbrev pub restore_data : RestoreRefusal → Data
restore_data why = object
    (member (codes "error") (string (codes "BadRestore"))
    (member (codes "from") (string (codes "restore")) (only (codes "why") (string (restore_words why)))))

-- how far a batch came: how many operations were done, and the layer's count and the snapshot's charge after them; and where one was refused, why, over the limit with what is free, with the field that it is about, where that is told, and which, from 1
abbrev pub batch_data : ℕ → Usage → Usage → Option RefusedOperation → Data
batch_data done count share None = object
    (member (codes "count") (usage_data count)
    (member (codes "done") (number_data done)
    (only (codes "share") (usage_data share))))
batch_data done count share (Some operation) = object
    (member (codes "count") (usage_data count)
    (member (codes "done") (number_data done)
    (member (codes "error") (string (refused_name operation.why))
    (maybe (codes "free") (option_map usage_data (free_at_refusal operation.why))
    (member (codes "from") (string (refused_from operation.why))
    (maybe (codes "of") (option_map (λ field. string (field_name field)) operation.of)
    (member (codes "op") (number_data operation.number)
    (only (codes "share") (usage_data share)))))))))

-- an answer: a reply has its own data, and the bytes of a file are in lower hexadecimal
abbrev pub answer_data : Answer → Data
answer_data (answers.Reply reply) = reply_data reply
answer_data (answers.Session session) = object (only (codes "session") (number_data session))
answer_data (answers.Share share) = object (only (codes "share") (usage_data share))
answer_data (answers.Changed count share) = object (member (codes "count") (usage_data count) (only (codes "share") (usage_data share)))
answer_data (answers.Batch done count share stopped) = batch_data done count share stopped
answer_data (answers.Seen seen) = object (only (codes "seen") (shown_data seen))
answer_data (answers.Names names) = object (only (codes "names") (array (items_of (map string names))))
answer_data (answers.Head head size) = object (member (codes "head") (string (encode_lower head)) (only (codes "size") (number_data size)))
answer_data (answers.Part bytes size) = object (member (codes "bytes") (string (encode_lower bytes)) (only (codes "size") (number_data size)))
answer_data (answers.Known size digest) = object (member (codes "digest") (digest_data digest) (only (codes "size") (number_data size)))
answer_data (answers.Path path) = object (only (codes "path") (string (text_of path)))
answer_data (answers.Taken taken) = object (member (codes "blocks") (number_data taken.blocks) (only (codes "inodes") (number_data taken.inodes)))
answer_data (answers.Quota quotas) = object (only (codes "quota") (object (members_with_entries quota_data quotas no_members)))
answer_data (answers.Leases leases) = object (only (codes "leases") (array (items_of (map lease_data leases))))
answer_data (answers.Tree nodes) = object (only (codes "tree") (array (items_of (map node_data nodes))))
answer_data (answers.Diff changes) = object (only (codes "changes") (array (items_of (map change_data changes))))
answer_data (answers.Journal entries) = object (only (codes "journal") (array (items_of (map entry_data entries))))
answer_data (answers.Report entries actives records totals) = object
    (member (codes "entries") (number_data entries)
    (member (codes "open") (number_data actives)
    (member (codes "records") (number_data records)
    (only (codes "totals") (object (members_with_entries usage_data totals no_members))))))
answer_data (answers.Jobs committed discarded refused totals) = object
    (member (codes "committed") (number_data committed)
    (member (codes "discarded") (number_data discarded)
    (member (codes "refused") (number_data refused)
    (only (codes "totals") (object (members_with_entries usage_data totals no_members))))))
answer_data (answers.Saved lines next) = object (member (codes "lines") (saved_lines lines) (maybe (codes "next") (option_map number_data next) no_members))
answer_data (answers.BadRestore why) = restore_data why
answer_data (answers.BadConfig field) = bad_config_data field
answer_data (answers.Failed error) = refusal_data (refused.File error) None
answer_data answers.NoSession = refusal_data refused.NoSession None
answer_data answers.NoHand = refusal_data refused.NoHand None
answer_data answers.StillOut = refusal_data refused.StillOut None
answer_data (answers.Refused why of) = refusal_data why of

-- a refused operation without the field that it is about
abbrev pub brief_operation : RefusedOperation → RefusedOperation
brief_operation operation = record { number = operation.number; why = operation.why; of = None }

-- the answer without the field that a refusal is about
abbrev pub brief_answer : Answer → Answer
brief_answer (answers.BadConfig field) = answers.Reply (replies.Refused refusals.BadArgument)
brief_answer (answers.Refused why of) = answers.Refused why None
brief_answer (answers.Batch done count share stopped) = answers.Batch done count share (option_map brief_operation stopped)
brief_answer answer = answer

-- the answer as the rule tells it: where any field may stand, a refusal is brief
abbrev pub answer_told : FieldRule → Answer → Answer
answer_told rules.Any answer = brief_answer answer
answer_told rules.Known answer = answer
answer_told rules.KnownAndId answer = answer

-- the line of an answer: its text with no space between, and a line feed
unfoldable pub answer_line : Answer → List ℕ
answer_line answer = compact_text (answer_data answer) ++ 10 ∷ []
