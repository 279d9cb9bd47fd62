-- The bytes of replies (RFC 9112, sections 4 and 6.2; RFC 9110, section 15).
use Rattle.std.specs.Prelude.{ℕ, ◌+◌, Bool, ◌||◌, ◌==◌, List, [], ◌∷◌, ◌++◌, length, codes, decimal, Option, Some, None, if◌then◌else◌}
use Rattle.sc_http.specs.declared.reply.Reply.{Reply}

-- the statuses of the replies that have a revision
abbrev pub is_status : ℕ → Bool
is_status s = (s == 200) || ((s == 201) || ((s == 400) || ((s == 404) || ((s == 405) || ((s == 409) || ((s == 411) || ((s == 413) || ((s == 431) || ((s == 500) || ((s == 501) || (s == 507)))))))))))

-- the phrase of such a status
unfoldable pub phrase : ℕ → List ℕ
phrase s =
    if s == 200 then codes "OK" else
    (if s == 201 then codes "Created" else
    (if s == 400 then codes "Bad Request" else
    (if s == 404 then codes "Not Found" else
    (if s == 405 then codes "Method Not Allowed" else
    (if s == 409 then codes "Conflict" else
    (if s == 411 then codes "Length Required" else
    (if s == 413 then codes "Payload Too Large" else
    (if s == 431 then codes "Request Header Fields Too Large" else
    (if s == 500 then codes "Internal Server Error" else
    (if s == 501 then codes "Not Implemented" else codes "Insufficient Storage"))))))))))

unfoldable pub version_text : List ℕ
version_text = codes "HTTP/1.1 "

unfoldable pub type_text : Bool → List ℕ
type_text geo = if geo then codes "\r\nContent-Type: application/geo+json" else codes "\r\nContent-Type: application/json"

unfoldable pub length_text : List ℕ
length_text = codes "\r\nContent-Length: "

unfoldable pub revision_text : List ℕ
revision_text = codes "\r\nCatalogue-Revision: "

unfoldable pub allow_text : List ℕ
allow_text = codes "\r\nAllow: "

unfoldable pub close_text : List ℕ
close_text = codes "\r\nConnection: close"

unfoldable pub end_text : List ℕ
end_text = codes "\r\n\r\n"

-- the line of the methods that are allowed, where they are told
abbrev pub allow_line : Option (List ℕ) → List ℕ
allow_line None = []
allow_line (Some list) = allow_text ++ list

-- the line that tells the connection's end
abbrev pub close_line : Bool → List ℕ
close_line close = if close then close_text else []

-- the version, the number, a blank and its phrase
abbrev pub status_line : ℕ → List ℕ
status_line status = version_text ++ decimal status ++ 32 ∷ phrase status

-- the whole reply
abbrev pub reply_bytes : Reply → List ℕ
reply_bytes r =
    status_line r.status ++ type_text r.geo ++ length_text ++ decimal (length r.body) ++ revision_text ++ decimal r.revision
    ++ allow_line r.allow ++ close_line r.close ++ end_text ++ r.body

abbrev pub list_length : Option (List ℕ) → ℕ
list_length None = 0
list_length (Some list) = length list

-- what a reply's length depends on but for a bounded head: the bytes of its body and of its list of methods
abbrev pub size_of : Reply → ℕ
size_of r = length r.body + list_length r.allow

-- the whole reply to want of memory
unfoldable pub unavailable_bytes : List ℕ
unavailable_bytes = codes "HTTP/1.1 503 Service Unavailable\r\nContent-Length: 0\r\nConnection: close\r\n\r\n"
