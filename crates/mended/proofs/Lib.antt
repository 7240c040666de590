-- Parts of a list; the walk as a loop; its lengths, its changes made in the original, its places; a sheet that reads well; the answer;
-- the worked rows and the claims.
pub mod Slices
pub mod Walk
pub mod Length
pub mod Applied
pub mod Places
pub mod CopiedFields
pub mod Copy
pub mod Answer
pub mod Worked
pub mod Claims
