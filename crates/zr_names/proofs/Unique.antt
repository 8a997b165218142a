use Rattle.std.proofs.Common.{◌≡◌, ◌≢◌, ℕ, ◌<◌, ◌^◌, List, codes, get_or, lit<, refl, sym, ◌∙◌, ap, arith}
use Rattle.std.proofs.lemmas.List.{append_cancel_left}
use Rattle.zr_names.specs.Marks.{HasGuid, IsMark, cursor_text, guid_and_job, old_cursor_text, tag_text, tentative_text}
use Rattle.zr_names.specs.declared.marks.MarkKind.{MarkKind}
use Rattle.zr_names.specs.declared.marks.MarkKind.TheVariants.{Cursor, Tentative, OldCursor, Other}
use Rattle.zr_names.specs.declared.marks.TagKind.{TagKind}
use Rattle.zr_names.specs.declared.marks.TagKind.TheVariants.{Step, Last}
use Rattle.zr_names.proofs.HexText.{same-hex_text}
use Rattle.zr_names.proofs.Parts.{parts_of}

-- texts with different bytes at one place differ
differ : (place below above : ℕ) (a b : List ℕ) → get_or a place 0 ≡ below → get_or b place 0 ≡ above → below < above → a ≢ b
differ place below above a b in_a in_b less = λ same.
    let at = ap (λ (t : List ℕ). get_or t place 0) same in
    omega arith

same_guid_and_job : (g h : ℕ) (j k : List ℕ) → g < 2 ^ 64 → h < 2 ^ 64 → guid_and_job g j ≡ guid_and_job h k → (g ≡ h) × (j ≡ k)
same_guid_and_job g h j k g_fits h_fits same =
    let own = parts_of (guid_and_job g j) g j refl in
    let other = parts_of (guid_and_job g j) h k same in
    (same-hex_text 16 g h g_fits h_fits (sym own.digits ∙ other.digits), append_cancel_left (codes "_J_") j k (sym own.rest ∙ other.rest))

-- a name is that of one cursor of one job
pub same_cursor : (g h : ℕ) (j k : List ℕ) → g < 2 ^ 64 → h < 2 ^ 64 → cursor_text g j ≡ cursor_text h k → (g ≡ h) × (j ≡ k)
same_cursor g h j k g_fits h_fits same =
    same_guid_and_job g h j k g_fits h_fits (append_cancel_left (codes "zrepl_CURSOR_G_") (guid_and_job g j) (guid_and_job h k) same)

pub same_tentative : (g h : ℕ) (j k : List ℕ) → g < 2 ^ 64 → h < 2 ^ 64 → tentative_text g j ≡ tentative_text h k → (g ≡ h) × (j ≡ k)
same_tentative g h j k g_fits h_fits same =
    same_guid_and_job g h j k g_fits h_fits (append_cancel_left (codes "zrepl_CURSORTENTATIVE_G_") (guid_and_job g j) (guid_and_job h k) same)

pub cursor_not_tentative : (g h : ℕ) (j k : List ℕ) → cursor_text g j ≢ tentative_text h k
cursor_not_tentative g h j k = λ same. differ 12 84 95 (tentative_text h k) (cursor_text g j) refl refl (lit< tt) (sym same)

pub cursor_not_old : (g : ℕ) (j : List ℕ) → cursor_text g j ≢ old_cursor_text
cursor_not_old g j = λ same. differ 6 67 114 (cursor_text g j) old_cursor_text refl refl (lit< tt) same

pub tentative_not_old : (g : ℕ) (j : List ℕ) → tentative_text g j ≢ old_cursor_text
tentative_not_old g j = λ same. differ 6 67 114 (tentative_text g j) old_cursor_text refl refl (lit< tt) same

-- a tag is that of one kind and one job
pub same_tag : (a b : TagKind) (j k : List ℕ) → tag_text a j ≡ tag_text b k → (a ≡ b) × (j ≡ k)
same_tag Step Step j k same = (refl, append_cancel_left (codes "zrepl_STEP_J_") j k same)
same_tag Last Last j k same = (refl, append_cancel_left (codes "zrepl_last_received_J_") j k same)
same_tag Step Last j k same = absurd (differ 6 83 108 (tag_text Step j) (tag_text Last k) refl refl (lit< tt) same)
same_tag Last Step j k same = absurd (differ 6 83 108 (tag_text Step k) (tag_text Last j) refl refl (lit< tt) (sym same))

-- a name is one mark of a job
pub one_mark : (name job : List ℕ) (a b : MarkKind) → HasGuid a → HasGuid b → IsMark name job a → IsMark name job b → a ≡ b
one_mark name job (Cursor g) (Cursor h) g_fits h_fits is_a is_b =
    ap (λ n. Cursor (record { 0 = n })) (same_cursor g.0 h.0 job job g_fits h_fits (sym is_a ∙ is_b)).0
one_mark name job (Tentative g) (Tentative h) g_fits h_fits is_a is_b =
    ap (λ n. Tentative (record { 0 = n })) (same_tentative g.0 h.0 job job g_fits h_fits (sym is_a ∙ is_b)).0
one_mark name job OldCursor OldCursor _ _ is_a is_b = refl
one_mark name job Other Other _ _ is_a is_b = refl
one_mark name job (Cursor g) (Tentative h) _ _ is_a is_b = absurd (cursor_not_tentative g.0 h.0 job job (sym is_a ∙ is_b))
one_mark name job (Cursor g) OldCursor _ _ is_a is_b = absurd (cursor_not_old g.0 job (sym is_a ∙ is_b))
one_mark name job (Cursor g) Other _ _ is_a is_b = absurd (is_b.no_cursor g.0 is_a)
one_mark name job (Tentative g) (Cursor h) _ _ is_a is_b = absurd (cursor_not_tentative h.0 g.0 job job (sym is_b ∙ is_a))
one_mark name job (Tentative g) OldCursor _ _ is_a is_b = absurd (tentative_not_old g.0 job (sym is_a ∙ is_b))
one_mark name job (Tentative g) Other _ _ is_a is_b = absurd (is_b.no_tentative g.0 is_a)
one_mark name job OldCursor (Cursor h) _ _ is_a is_b = absurd (cursor_not_old h.0 job (sym is_b ∙ is_a))
one_mark name job OldCursor (Tentative h) _ _ is_a is_b = absurd (tentative_not_old h.0 job (sym is_b ∙ is_a))
one_mark name job OldCursor Other _ _ is_a is_b = absurd (is_b.not_old is_a)
one_mark name job Other (Cursor h) _ _ is_a is_b = absurd (is_a.no_cursor h.0 is_b)
one_mark name job Other (Tentative h) _ _ is_a is_b = absurd (is_a.no_tentative h.0 is_b)
one_mark name job Other OldCursor _ _ is_a is_b = absurd (is_a.not_old is_b)

-- the marks of a job are no marks of another
pub other_job : (j k : List ℕ) (g : ℕ) → g < 2 ^ 64 → j ≢ k → (kind : MarkKind) → HasGuid kind → IsMark (cursor_text g j) k kind → kind ≡ Other
other_job j k g g_fits apart (Cursor h) h_fits is = absurd (apart (same_cursor g h.0 j k g_fits h_fits is).1)
other_job j k g g_fits apart (Tentative h) h_fits is = absurd (cursor_not_tentative g h.0 j k is)
other_job j k g g_fits apart OldCursor _ is = absurd (cursor_not_old g j is)
other_job j k g g_fits apart Other _ is = refl

pub other_job_tentative : (j k : List ℕ) (g : ℕ) → g < 2 ^ 64 → j ≢ k → (kind : MarkKind) → HasGuid kind → IsMark (tentative_text g j) k kind → kind ≡ Other
other_job_tentative j k g g_fits apart (Cursor h) h_fits is = absurd (cursor_not_tentative h.0 g k j (sym is))
other_job_tentative j k g g_fits apart (Tentative h) h_fits is = absurd (apart (same_tentative g h.0 j k g_fits h_fits is).1)
other_job_tentative j k g g_fits apart OldCursor _ is = absurd (tentative_not_old g j is)
other_job_tentative j k g g_fits apart Other _ is = refl
