use Rattle.std.specs.Prelude.{◌==◌, ℕ, Bool, List, Option, Some, None, codes, length, nat_eq, if◌then◌else◌}
use Rattle.std.specs.List.{list_any}
use Rattle.std.specs.Cmp.Lexicographic.{pointwise}
use Rattle.std.specs.Str.{bytes_eq}
use Rattle.zr_cmd.specs.Forms.{read_as, word_at}
use Rattle.zr_cmd.specs.Words.{words_of}
use Rattle.zr_cmd.specs.declared.forms.ZfsCall.{ZfsCall}
use Rattle.zr_cmd.specs.declared.forms.Form.{Form}
use Rattle.zr_cmd.specs.declared.forms.Form.TheVariants as form

-- the word at this place is a snapshot's full name, and no bookmark's
abbrev pub is_snap : List (List ℕ) → ℕ → Bool
is_snap words place = list_any (λ b. b == 64) (word_at words place)

-- the form that words would have, by the first one and what tells two forms with the same first word apart
abbrev pub form_for : List (List ℕ) → Form
form_for words =
    if bytes_eq (word_at words 0) (codes "list") then (if length words == 7 then form.Sets else form.Versions)
    else (if bytes_eq (word_at words 0) (codes "holds") then form.Holds
    else (if bytes_eq (word_at words 0) (codes "snapshot") then form.Snapshot
    else (if bytes_eq (word_at words 0) (codes "hold") then form.Hold
    else (if bytes_eq (word_at words 0) (codes "release") then form.Release
    else (if bytes_eq (word_at words 0) (codes "bookmark") then (if is_snap words 1 then form.BookmarkSnap else form.BookmarkMark)
    else (if bytes_eq (word_at words 0) (codes "destroy") then (if is_snap words 1 then form.DestroySnaps else form.DestroyMark)
    else (if bytes_eq (word_at words 0) (codes "create") then form.Create
    else (if bytes_eq (word_at words 0) (codes "send") then (if length words == 2 then form.SendFull
    else (if length words == 4 then form.SendFrom
    else (if bytes_eq (word_at words 1) (codes "-nvt") then form.Token else form.SendToken)))
    else (if length words == 3 then form.Abort
    else (if length words == 4 then form.Receive else form.ReceiveForced))))))))))

-- the words are those of the call
abbrev pub has_words : List (List ℕ) → ZfsCall → Bool
has_words words given = pointwise (pointwise nat_eq) words (words_of given)

-- the call whose words these are
unfoldable pub call_of : List (List ℕ) → Option ZfsCall
call_of words =
    if has_words words (read_as (form_for words) words) then Some (read_as (form_for words) words) else None
